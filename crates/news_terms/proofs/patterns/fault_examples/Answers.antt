-- What stands before each fault, and the fault.
use Rattle.std.proofs.Common.{◌∷◌, [], codes, refl, inl, inr, arith}
use Rattle.std.specs.Str.{byte}
use Rattle.news_terms.specs.Pattern.{Match, Fail, Literal, in_set, in_reverse}
use Rattle.news_terms.proofs.patterns.fault_examples.Goals as goal

pub returns-clause-range_upside_down : goal.returns-clause-range_upside_down
returns-clause-range_upside_down c = record {
  before = [];
  expression = record { mark = Match; pattern = [] } ∷ [];
  rest = codes "[z-a]";
  split = refl;
  read = record { some = omega arith; each = refl; spelled = refl };
  faulty = in_set (codes "z-a") [] refl refl refl refl;
}

pub returns-clause-empty_set : goal.returns-clause-empty_set
returns-clause-empty_set c = record {
  before = [];
  expression = record { mark = Match; pattern = [] } ∷ [];
  rest = codes "[]";
  split = refl;
  read = record { some = omega arith; each = refl; spelled = refl };
  faulty = ([], inl refl);
}

pub returns-clause-empty_reverse : goal.returns-clause-empty_reverse
returns-clause-empty_reverse c = record {
  before = codes "x,";
  expression = record { mark = Match; pattern = Literal (byte "x") ∷ [] }
      ∷ record { mark = Match; pattern = [] } ∷ [];
  rest = codes "[^]";
  split = refl;
  read = record { some = omega arith; each = refl; spelled = refl };
  faulty = ([], inr refl);
}

pub returns-clause-open_set : goal.returns-clause-open_set
returns-clause-open_set c = record {
  before = [];
  expression = record { mark = Match; pattern = [] } ∷ [];
  rest = codes "[ab";
  split = refl;
  read = record { some = omega arith; each = refl; spelled = refl };
  faulty = (codes "ab", refl, refl);
}

pub returns-clause-open_set_of_nothing : goal.returns-clause-open_set_of_nothing
returns-clause-open_set_of_nothing c = record {
  before = [];
  expression = record { mark = Match; pattern = [] } ∷ [];
  rest = codes "[";
  split = refl;
  read = record { some = omega arith; each = refl; spelled = refl };
  faulty = ([], refl, refl);
}

pub returns-clause-dangling : goal.returns-clause-dangling
returns-clause-dangling c = record {
  before = codes "a";
  expression = record { mark = Match; pattern = Literal (byte "a") ∷ [] } ∷ [];
  rest = codes "\\";
  split = refl;
  read = record { some = omega arith; each = refl; spelled = refl };
  faulty = refl;
}

pub returns-clause-past_ascii : goal.returns-clause-past_ascii
returns-clause-past_ascii c = record {
  before = codes "!";
  expression = record { mark = Fail; pattern = [] } ∷ [];
  rest = 0xE4 ∷ codes "[]";
  split = refl;
  read = record { some = omega arith; each = refl; spelled = refl };
  faulty = inl (0xE4, codes "[]", omega arith, inl refl);
}

pub returns-clause-first_past_ascii : goal.returns-clause-first_past_ascii
returns-clause-first_past_ascii c = record {
  before = [];
  expression = record { mark = Match; pattern = [] } ∷ [];
  rest = 0x80 ∷ [];
  split = refl;
  read = record { some = omega arith; each = refl; spelled = refl };
  faulty = inl (0x80, [], omega arith, inl refl);
}

pub returns-clause-escaped_past_ascii : goal.returns-clause-escaped_past_ascii
returns-clause-escaped_past_ascii c = record {
  before = [];
  expression = record { mark = Match; pattern = [] } ∷ [];
  rest = byte "\\" ∷ 0xE4 ∷ [];
  split = refl;
  read = record { some = omega arith; each = refl; spelled = refl };
  faulty = inl (0xE4, [], omega arith, inr refl);
}

pub returns-clause-set_past_ascii : goal.returns-clause-set_past_ascii
returns-clause-set_past_ascii c = record {
  before = [];
  expression = record { mark = Match; pattern = [] } ∷ [];
  rest = byte "[" ∷ byte "a" ∷ 0xE4 ∷ codes "]";
  split = refl;
  read = record { some = omega arith; each = refl; spelled = refl };
  faulty = inr (in_set (byte "a" ∷ 0xE4 ∷ []) [] refl refl refl refl);
}

pub returns-clause-reverse_upside_down : goal.returns-clause-reverse_upside_down
returns-clause-reverse_upside_down c = record {
  before = [];
  expression = record { mark = Match; pattern = [] } ∷ [];
  rest = codes "[^z-a]";
  split = refl;
  read = record { some = omega arith; each = refl; spelled = refl };
  faulty = in_reverse (codes "z-a") [] refl refl refl;
}

pub returns-clause-two_at_one_octet : goal.returns-clause-two_at_one_octet
returns-clause-two_at_one_octet c = record {
  before = [];
  expression = record { mark = Match; pattern = [] } ∷ [];
  rest = byte "[" ∷ 0xE4 ∷ codes "-a]";
  split = refl;
  read = record { some = omega arith; each = refl; spelled = refl };
  faulty = in_set (0xE4 ∷ codes "-a") [] refl refl refl refl;
}
