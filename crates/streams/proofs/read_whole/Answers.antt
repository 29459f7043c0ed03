-- What one read puts behind the bytes read so far is what the reader gave.
use Rattle.std.proofs.Common.{◌≡◌, ℕ, ◌+◌, ◌-◌, ◌≤◌, List, ◌++◌, rules, length, take, sym, ap, ◌∙◌, subst, length-take-le}
use Rattle.std.proofs.Math.Seq.{take-append-add}
use Rattle.std.proofs.lemmas.List.{take-append-le}
use Rattle.std.specs.Io.KnownBytes.{Consumes}
use Rattle.std.proofs.KnownBytes.{Consumes-trans}
use borrow.Rule.Slice.PartMut.{put_mid, post_of}
use Rattle.streams.proofs.read_whole.Goals as goal

-- the front that stands after n of the ys were put behind the first a of the xs
front_read : (a k n : ℕ) (xs ys : List ℕ) → a ≤ length xs → n ≤ length ys → take (a + n) (put_mid a k xs ys) ≡ take a xs ++ take n ys
front_read a k n xs ys within fits =
    let rest = post_of a k xs in
    ap (λ m. take (m + n) (put_mid a k xs ys)) (sym (length-take-le a xs within)) ∙ take-append-add (take a xs) (ys ++ rest) n ∙ ap (λ l. take a xs ++ l) (take-append-le n ys rest fits)

pub loop-done-preserved-in-Ok : goal.loop-done-preserved-in-Ok
loop-done-preserved-in-Ok g c =
    let from = c.loop-done.done in
    let front = front_read from (length c.loop-done.list - from) c.in-Ok.n c.loop-done.list c.read.new.buf c.loop-done.invariant.1 c.in-Ok.ensures.bound.0 in
    (search rules, search rules, subst (Consumes _ _) (sym front) (Consumes-trans _ _ _ _ _ c.loop-done.invariant.2 c.in-Ok.ensures.bytes.0))
