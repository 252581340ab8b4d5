-- Further terms, each of which differs from `k1` in what its rows are about.
use Rattle.std.specs.Prelude.{ℕ, [], ◌∷◌, Some}
use Rattle.news_terms.specs.Pattern.{Fail, Star}
use Rattle.news_terms.specs.Places.{Buffer, Group}
use Rattle.relay_model.specs.Terms.{Terms, FeedTerms}
use Rattle.relay_laws.specs.Terms.{k1, buffer_a, group_g, every_article, feed_of_second}

-- a second buffer of eight blocks
abbrev pub buffer_b : Buffer
buffer_b = record buffer_a { number = 1 }

-- a group of that alone
abbrev pub group_h : Group
group_h = record group_g { buffers = buffer_b ∷ [] }

-- one group that takes both buffers in turn
abbrev pub in_turn : Terms
in_turn =
    record k1 {
      buffers = buffer_a ∷ buffer_b ∷ [];
      groups = record group_g { buffers = buffer_a ∷ buffer_b ∷ [] } ∷ [];
    }

-- two groups of a buffer each: what is up to 164 octets long is of class 1 and goes to the first,
-- what is longer of class 2 and to the second
abbrev pub two_groups : Terms
two_groups =
    record k1 {
      buffers = buffer_a ∷ buffer_b ∷ [];
      groups = group_g ∷ group_h ∷ [];
      entries =
          record every_article { largest = Some 164 }
          ∷ record every_article { smallest = 165; class = 2; group = 1 } ∷ [];
    }

-- the same, where ids may be forgotten after a hundred seconds
abbrev pub two_forgetting : Terms
two_forgetting = record two_groups { remember = Some 100 }

-- the buffer begins in the last cycle that a token has room for
abbrev pub in_last_cycle : Terms
in_last_cycle =
    let last = record buffer_a { first_cycle = 4_294_967_295 } in
    record k1 { buffers = last ∷ []; groups = record group_g { buffers = last ∷ [] } ∷ [] }

-- what is up to 163 octets long is of class 3, what is longer of class 2
abbrev pub by_size : Terms
by_size =
    record k1 {
      entries =
          record every_article { largest = Some 163; class = 3 }
          ∷ record every_article { smallest = 164; class = 2 } ∷ [];
    }

-- the second peer's feed, which may have no newsgroup: its expression is `!*`
abbrev pub barred_feed : FeedTerms
barred_feed =
    record feed_of_second { expression = record { mark = Fail; pattern = Star ∷ [] } ∷ [] }

-- the terms with that feed
abbrev pub barring_all : Terms
barring_all = record k1 { feeds = barred_feed ∷ [] }

-- the terms with a feed of the first peer too, which holds one token
abbrev pub feeding_both : Terms
feeding_both =
    record k1 { feeds = record feed_of_second { peer = 0; ring = 1 } ∷ feed_of_second ∷ [] }

-- a block may have so many octets
abbrev pub of_at_most : (octets : ℕ) → Terms
of_at_most octets = record k1 { max_article = octets }
