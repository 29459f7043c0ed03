-- The round trip of the two calls: what the writer wrote is read as it was given, and what the reader read is written as it was. Assumes nothing.
use mathlib.Core.Path.{◌≡◌, sym, ap}
use mathlib.Core.List.{List}
use Prim.Native.Nat.{ℕ, ◌≤◌, ◌<◌}
use native.Mathlib.Omega.{arith}
use lib.ListN.{length}
use Rattle.std.specs.Prelude.{Ok}
use Rattle.sheet.specs.Bytes.{sheet_bytes, Accepted}
use Rattle.sheet.specs.Reader.{Strings, reading}
use Rattle.sheet.proofs.AcceptLaws.{passing}
use Rattle.sheet.proofs.RoundTrip.{Roomy, right_read, read_right}
use Rattle.writer.specs.Writer.{writing}
use Rattle.writer.proofs.CheckLaws.{checks_pass, sizes_fit, writing_checked, writing_fits}

-- what was written is accepted, for an alphabet of k
pub written_accepted : (B K M N k : ℕ) (A P T : List ℕ) (room : ℕ) → writing B K M N k A P T room ≡ Ok tt → Accepted B K M N A P T × (length A ≡ k)
written_accepted B K M N k A P T room q =
    let c = writing_checked B K M N k A P T room q in
    (record { alphabet = c.alphabet; passed = c.passed; fits = writing_fits B K M N k A P T room q }, c.size)

-- reading what was written gives the same strings, where there is room
pub wrote_read : (B K M N : ℕ) → K < 100000 → M < 100000 → N < 100000 → (k : ℕ) (A P T : List ℕ) (room : ℕ) (d : Strings)
    → writing B K M N k A P T room ≡ Ok tt → Roomy A P T d
    → reading B K M N d (sheet_bytes A P T) ≡ Ok (record { alphabet = A; pattern = P; text = T })
wrote_read B K M N hk hm hn k A P T room d q r =
    right_read B K M N hk hm hn A P T d (written_accepted B K M N k A P T room q).0 r

-- writing what was read is not refused, where there is room, and gives the same bytes
pub read_wrote : (B K M N : ℕ) (d : Strings) (s : List ℕ) (w : Strings) (room : ℕ) → reading B K M N d s ≡ Ok w → length s ≤ room
    → (writing B K M N (length w.alphabet) w.alphabet w.pattern w.text room ≡ Ok tt)
    × (sheet_bytes w.alphabet w.pattern w.text ≡ s)
unfolding writing
read_wrote B K M N d s w room q h =
    let r = read_right B K M N d s w q in
    let A = w.alphabet in
    let P = w.pattern in
    let T = w.text in
    let v = passing K M N (length A) P T r.0.passed in
    let n = ap length r.1 in (
      rw (checks_pass K M N A P T v.some v.few r.0.alphabet r.0.passed) (sizes_fit B room (length (sheet_bytes A P T)) r.0.fits (omega arith)),
      sym r.1,
    )
