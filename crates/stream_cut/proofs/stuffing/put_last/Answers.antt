-- The block that sends a last line is the line, the end that it lacks, and the lone dot.
use Rattle.std.proofs.Common.{◌≡◌, ◌+◌, ◌≤◌, ◌∷◌, ◌++◌, [], ℕ, List, Bool, ap, arith, length}
use Rattle.std.proofs.Common.{length-append, vec_len, vec_capacity}
use Rattle.news_terms.specs.Blocks.{stuffed, stuffed_line}
use Rattle.stream_cut.specs.Dots.{end_of}
use Rattle.stream_cut.proofs.stuffing.put_last.Goals as goal

-- so many octets it has
length-last : (t : List ℕ) (lacks : Bool)
    → stuffed t ≡ (stuffed_line t ++ end_of lacks) ++ 46 ∷ 13 ∷ 10 ∷ []
    → length (stuffed t) ≡ length (stuffed_line t) + length (end_of lacks) + 3
length-last t lacks e = omega (
  arith,
  ap length e,
  length-append (stuffed_line t ++ end_of lacks) (46 ∷ 13 ∷ 10 ∷ []),
  length-append (stuffed_line t) (end_of lacks),
)

line_fits : (len cap line end all : ℕ) → len + all ≤ cap → all ≡ line + end + 3 → len + line ≤ cap
line_fits len cap line end all room e = omega (arith, room, e)

pub lacks_end-lacks_end-requires : goal.lacks_end-lacks_end-requires
lacks_end-lacks_end-requires c = c.requires.dots

pub put_stuffed_line-requires : goal.put_stuffed_line-requires
put_stuffed_line-requires c =
    let t = c.args.rest.now in
    let lacks = c.lacks_end-lacks_end.result in
    line_fits (vec_len c.args.block.now) (vec_capacity c.args.block.now) (length (stuffed_line t))
    (length (end_of lacks)) (length (stuffed t)) c.requires.room
    (length-last t lacks c.lacks_end-lacks_end.ensures)
