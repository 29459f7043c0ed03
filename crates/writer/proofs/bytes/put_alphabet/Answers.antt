-- `writer::bytes::put_alphabet` meets its contract. Assumes nothing.
use mathlib.Core.List.{[], ◌∷◌, ◌++◌}
use native.Mathlib.Omega.{arith}
use Rattle.lent.proofs.StoreLaws.{Storing, so_none, so_front, so_next, so_back, so_last}
use Rattle.writer.proofs.bytes.put_alphabet.Goals as goal

pub put_bytes-e-requires : goal.put_bytes-e-requires
put_bytes-e-requires c = so_front c.args.alphabet.now (10 ∷ []) (so_none c.args.out.now _ _) c.requires

pub put_byte-requires : goal.put_byte-requires
put_byte-requires c =
    let left : let a = c.args in Storing a.out.now a.at (a.alphabet.now ++ (10 ∷ [])) (10 ∷ []) c.put_bytes-e.new.out c.put_bytes-e.result = so_next c.args.alphabet.now (10 ∷ []) (so_none _ _ _) c.put_bytes-e.ensures.1 c.put_bytes-e.ensures.0 in
    let h = so_back (10 ∷ []) left c.requires in
    omega arith

pub returns : goal.returns
returns c =
    let left : let a = c.args in Storing a.out.now a.at (a.alphabet.now ++ (10 ∷ [])) (10 ∷ []) c.put_bytes-e.new.out c.put_bytes-e.result = so_next c.args.alphabet.now (10 ∷ []) (so_none _ _ _) c.put_bytes-e.ensures.1 c.put_bytes-e.ensures.0 in
    so_last (10 ∷ []) left c.put_byte.ensures.1 c.put_byte.ensures.0
