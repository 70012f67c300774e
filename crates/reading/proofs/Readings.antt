-- What one read comes to, in numbers; by that, what after_read's tests show and what read_to_end takes from it.
use mathlib.Core.Bool.{true, false}
use mathlib.Core.List.{List}
use mathlib.Core.Path.{◌≡◌, refl, ◌∙◌, ap}
use Prim.Native.Nat.{ℕ, zero, suc, ◌+◌, ◌≤◌, ◌<◌, min}
use native.Mathlib.Decide.{dec_le}
use native.Mathlib.Omega.{arith}
use lib.Dec.{ltb→lt}
use lib.IntN.{ℤ, pos, negsuc}
use lib.ListN.{length}
use lib.Signed.{◌<ℤ◌, lt_z_yes}
use Rattle.io.proofs.Counting.{prefix_len_of_le}
use Rattle.io.specs.Counts.{clamp_len}
use Rattle.reading.specs.Reading.{failed_read, after_read, no_bytes, ReadsEnd, ReadWhole}
use Rattle.reading.specs.declared.AfterRead.TheVariants.{Ended, More}
use Rattle.reading.specs.declared.ReadEnd.TheVariants.{Failed, AtEnd}
use Rattle.reading.specs.declared.Reading.{Reading}

failing : (done room : ℕ) (answer : ℤ) → answer <ℤ pos 0 → after_read done answer room ≡ Ended (record { count = 0; end = Failed })
unfolding after_read
failing done room (negsuc k) l = refl
failing done room (pos k) l = absurd (omega (arith, ltb→lt k 0 l.lt))

going : (done room k : ℕ) → 0 < k → after_read done (pos k) room ≡ More (done + min k room)
unfolding after_read
going done room zero l = absurd (omega arith)
going done room (suc k) l = refl

pub reads_end : (done room : ℕ) → ReadsEnd done room
unfolding after_read
reads_end done room =
    record {
      failed = failing done room;
      ended = refl;
      more = λ k l h. going done room k l ∙ ap More (omega arith);
      most = λ k h. going done room k (omega arith) ∙ ap More (omega arith);
    }

-- what a file that can't be read gives is judged as such in any buffer
pub none_read : (buf : List ℕ) (r : Reading) → r ≡ no_bytes → ReadWhole buf r.count r.end
none_read buf r e =
    rw e
    (record {
      counted = (omega arith, refl);
      unreadable = λ _. refl;
      full = λ q. absurd (let z : ◌≡◌ {A = ℕ} 0 1 = cc in omega arith);
    })

module _ (done room : ℕ) where
  laws : ReadsEnd done room
  laws = reads_end done room

  pub failed_ends : (answer : ℤ) → failed_read answer ≡ true → after_read done answer room ≡ Ended no_bytes
  failed_ends (negsuc k) e = laws.failed (negsuc k) (lt_z_yes tt)
  failed_ends (pos k) e = absurd (let z : ◌≡◌ {A = ℕ} 0 1 = cc in omega arith)

  pub nothing_ends : (answer : ℤ) → answer ≡ pos 0 → after_read done answer room ≡ Ended (record { count = done; end = AtEnd })
  nothing_ends answer e = rw e laws.ended

  pub other_goes_on : (answer : ℤ) → failed_read answer ≡ false → ¬ (answer ≡ pos 0) → after_read done answer room ≡ More (done + clamp_len answer room)
  other_goes_on (negsuc k) e n = absurd (let z : ◌≡◌ {A = ℕ} 0 1 = cc in omega arith)
  other_goes_on (pos zero) e n = absurd (n refl)
  other_goes_on (pos (suc k)) e n =
      elim (dec_le (suc k) room) [
        | yes h ↦ laws.more (suc k) (omega arith) h ∙ ap More (omega arith)
        | no h ↦ laws.most (suc k) (omega arith) ∙ ap More (omega arith)
      ]

  -- where reading ends, its bytes are judged by how it ended
  pub ended-whole : (buf : List ℕ) (answer : ℤ) (r : Reading) → after_read done answer room ≡ Ended r → done ≤ length buf → ReadWhole buf r.count r.end
  ended-whole buf (negsuc k) r e l = none_read buf r (let q = laws.failed (negsuc k) (lt_z_yes tt) in cc)
  ended-whole buf (pos zero) r e l =
      let q : r ≡ record { count = done; end = AtEnd } = (let h = laws.ended in cc) in
      rw q
      (record {
        counted = prefix_len_of_le _ _ l;
        unreadable = λ e. absurd (let z : ◌≡◌ {A = ℕ} 0 1 = cc in omega arith);
        full = λ e. absurd (let z : ◌≡◌ {A = ℕ} 0 1 = cc in omega arith);
      })
  ended-whole buf (pos (suc k)) r e l = absurd (let q = going done room (suc k) (omega arith) in let z : ◌≡◌ {A = ℕ} 0 1 = cc in omega arith)

  -- where it goes on, more bytes have come, and no more than there was room for
  pub more_come : (answer : ℤ) (n : ℕ) → after_read done answer room ≡ More n → 0 < room → (done < n) × (n ≤ done + room)
  more_come (negsuc k) n e l = absurd (let q = laws.failed (negsuc k) (lt_z_yes tt) in let z : ◌≡◌ {A = ℕ} 0 1 = cc in omega arith)
  more_come (pos zero) n e l = absurd (let q = laws.ended in let z : ◌≡◌ {A = ℕ} 0 1 = cc in omega arith)
  more_come (pos (suc k)) n e l =
      let q : n ≡ done + min (suc k) room = (let h = going done room (suc k) (omega arith) in cc) in
      (omega arith, omega arith)
