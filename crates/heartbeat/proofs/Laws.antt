-- Laws of the heartbeat.
-- Assumes nothing.
use mathlib.Core.Path.{◌≡◌, sym, ap, ◌∙◌}
use mathlib.Core.Bool.{true, and-true}
use Prim.Native.Nat.{ℕ, suc, ◌+◌, ◌*◌, ◌/◌, ◌%◌, ◌<◌}
use mathlib.Core.List.{◌∷◌}
use native.Mathlib.Omega.{arith}
use lib.Dec.{ltb}
use lib.ListN.{get_or}
use borrow.Author.Tests.{ltb-true, leb-true, lt-ltb}
use Rattle.numbers.proofs.Bytes.{byte_at, spread, up_to}
use Rattle.numbers.proofs.Every.{both}
use Rattle.codec.specs.Reading.{reading}
use Rattle.units.specs.TimeOfDay.{last_second, is_time_of_day}
use Rattle.message_types.specs.declared.Heartbeat.{Heartbeat}
use Rattle.heartbeat.specs.Heartbeat.{time_of, count_of, heartbeat_in, good_heartbeat, HeartbeatBits}
use Rattle.heartbeat.specs.Claims.{HeartbeatWrittenRead, HeartbeatReadWritten, LateIs8}

-- a good heartbeat's fields are within their bits
pub in_bits : (h : Heartbeat) → good_heartbeat h ≡ true → HeartbeatBits h
in_bits h g =
    let a = both (ltb h.status2 128) _ g in
    let b = both (is_time_of_day h.time) _ a.1 in
    let d = both (ltb h.uplinks 32) _ b.1 in
    let e = both (ltb h.reserved 2) _ d.1 in
    let day = leb-true h.time last_second b.0 in
    record {
      status2 = ltb-true _ _ a.0;
      time = omega arith;
      uplinks = ltb-true _ _ d.0;
      reserved = ltb-true _ _ e.0;
      counts = ltb-true _ _ e.1;
    }

-- three bytes hold the time and the rest of status byte 2
time_kept : {s t : ℕ} → s < 128 → t < 131072 → (time_of (t / 65536 * 128 + s) (t % 256) (t / 256 % 256) ≡ t) × ((t / 65536 * 128 + s) % 128 ≡ s)
time_kept a b = (omega arith, omega arith)

-- two bytes hold the counts and the reserved bit between them
counts_kept : {u r n : ℕ} → u < 32 → r < 2 → n < 1024 → ((u * 8 + r * 4 + n / 256) / 8 ≡ u) × ((u * 8 + r * 4 + n / 256) / 4 % 2 ≡ r) × (count_of (u * 8 + r * 4 + n / 256) (n % 256) ≡ n)
counts_kept a b d = (omega arith, omega arith, omega arith)

pub written_read : HeartbeatWrittenRead
unfolding heartbeat_in
written_read h g =
    let b = in_bits h g in
    let t = time_kept b.status2 b.time in
    let n = counts_kept b.uplinks b.reserved b.counts in
    simp (t.0, t.1, n.0, n.1, n.2)

time_back : {s l h : ℕ} → s < 256 → l < 256 → h < 256 → (time_of s l h / 65536 * 128 + s % 128 ≡ s) × (time_of s l h % 256 ≡ l) × (time_of s l h / 256 % 256 ≡ h)
time_back a b d = (omega arith, omega arith, omega arith)

counts_back : {h l : ℕ} → h < 256 → l < 256 → (h / 8 * 8 + h / 4 % 2 * 4 + count_of h l / 256 ≡ h) × (count_of h l % 256 ≡ l)
counts_back a b = (omega arith, omega arith)

pub read_written : HeartbeatReadWritten
unfolding heartbeat_in
read_written m long bytes id =
    let b : (i : ℕ) → get_or m i 0 < 256 = λ i. byte_at m i bytes in
    let t = time_back (b 2) (b 3) (b 4) in
    let n = counts_back (b 5) (b 6) in
    simp (t.0, t.1, t.2, n.0, n.1) (sym (spread 7 m long ∙ ap (λ (x : ℕ). x ∷ up_to 6 (λ i. get_or m (suc i) 0)) id))

-- every field but the time is in range, whatever the bytes
pub late_is_8 : LateIs8
unfolding heartbeat_in reading
late_is_8 m bytes fit =
    let b5 = byte_at m 5 bytes in
    let b6 = byte_at m 6 bytes in
    let s = lt-ltb (get_or m 2 0 % 128) 128 (omega arith) in
    let u = lt-ltb (get_or m 5 0 / 8) 32 (omega arith) in
    let r = lt-ltb (get_or m 5 0 / 4 % 2) 2 (omega arith) in
    let n = lt-ltb (count_of (get_or m 5 0) (get_or m 6 0)) 1024 (omega arith) in
    simp (fit, s, u, r, n, and-true)
