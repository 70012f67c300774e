-- Which calls the C functions take: the test of each layout, told in lengths.
use mathlib.Core.Bool.{Bool, true, false, ◌&&◌, and-eq-true_iff}
use mathlib.Core.List.{List}
use mathlib.Core.Path.{◌≡◌, refl}
use Prim.Native.Nat.{ℕ}
use native.Mathlib.Omega.{arith}
use lib.Dec.{leb}
use lib.ListN.{length}
use borrow.Author.Tests.{leb-true, le-leb, eqb-true, eq-eqb}
use Rattle.layouts.specs.Layout.{has, returned}
use Rattle.layouts.specs.Lengths.{session_length, grid_length, answer_length}
use Rattle.layouts.specs.SessionWords.{session_fits}
use Rattle.layouts.specs.SizeWords.{sizes_fit}
use Rattle.layouts.proofs.Told.{sizes-told, sizes-fit, session-told, session-fits}
use Rattle.report_calls.specs.ReportCalls.{report_fits}
use Rattle.session_calls.specs.SessionCalls.{open_fits, continue_fits}
use Rattle.table_calls.specs.TableCalls.{cells_fit}
use Rattle.callers.specs.TakenInC.{Takes, CellsLaid, OpenLaid, ContinueLaid, ReportLaid, TakenInC}

-- what a test that means P decides
takes : (r : ℕ) (b : Bool) (P : Type 0) → r ≡ returned b → (b ≡ true → P) → (P → b ≡ true) → Takes r P
takes r true P e f g = record { taken = (λ _. f refl, λ _. e); otherwise = λ n. absurd (n (f refl)) }
takes r false P e f g =
    record {
      taken = (λ q. absurd (omega arith), λ p. let t = g p in absurd (let z : ◌≡◌ {A = ℕ} 0 1 = cc in omega arith));
      otherwise = λ _. e;
    }

-- of a call that asks for the length of its answer slice alone
takes_out : (n : ℕ) (o : List ℕ) (r : ℕ) → r ≡ returned (has n o) → Takes r (length o ≡ n)
takes_out n o r e = takes r (has n o) (length o ≡ n) e (eqb-true (length o) n) (eq-eqb (length o) n)

module _ (w o : List ℕ) where
  cells_told : cells_fit w o ≡ true → CellsLaid w o
  unfolding cells_fit
  cells_told e =
      let p = (and-eq-true_iff (has 3 o) (sizes_fit w)).0 e in
      let t = sizes-told w p.1 in
      record { sizes = t.long; small = t.bytes.small; out = eqb-true (length o) 3 p.0 }

  cells_fit_lem : CellsLaid w o → cells_fit w o ≡ true
  unfolding cells_fit
  cells_fit_lem c =
      rw (eq-eqb (length o) 3 c.out)
      (sizes-fit w (record { long = c.sizes; bytes = record { long = omega (arith, c.sizes); small = c.small } }))

  open_told : open_fits w o ≡ true → OpenLaid w o
  unfolding open_fits
  open_told e =
      let p = (and-eq-true_iff (has session_length w) (has 3 o)).0 e in
      record { session = eqb-true (length w) session_length p.0; out = eqb-true (length o) 3 p.1 }

  open_fits_lem : OpenLaid w o → open_fits w o ≡ true
  unfolding open_fits
  open_fits_lem c = rw (eq-eqb (length w) session_length c.session) (eq-eqb (length o) 3 c.out)

  continue_told : continue_fits w o ≡ true → ContinueLaid w o
  unfolding continue_fits
  continue_told e =
      let p = (and-eq-true_iff (has answer_length o) (session_fits w)).0 e in
      let t = session-told w p.1 in
      record { session = t.long; small = t.bytes.small; mark = t.mark; answer = eqb-true (length o) answer_length p.0 }

  continue_fits_lem : ContinueLaid w o → continue_fits w o ≡ true
  unfolding continue_fits
  continue_fits_lem c =
      rw (eq-eqb (length o) answer_length c.answer)
      (session-fits w
      (record { long = c.session; bytes = record { long = omega (arith, c.session); small = c.small }; mark = c.mark }))

module _ (a t o : List ℕ) where
  report_told : report_fits a t o ≡ true → ReportLaid a t o
  unfolding report_fits
  report_told e =
      let p = (and-eq-true_iff (has answer_length a && leb 512 (length t)) (has 1 o)).0 e in
      let q = (and-eq-true_iff (has answer_length a) (leb 512 (length t))).0 p.0 in
      record {
        answer = eqb-true (length a) answer_length q.0;
        text = leb-true 512 (length t) q.1;
        out = eqb-true (length o) 1 p.1;
      }

  report_fits_lem : ReportLaid a t o → report_fits a t o ≡ true
  unfolding report_fits
  report_fits_lem c =
      rw (eq-eqb (length a) answer_length c.answer, le-leb 512 (length t) c.text) (eq-eqb (length o) 1 c.out)

pub taken_in_c : TakenInC
taken_in_c =
    record {
      checking = λ f o r o' h. takes_out 3 o r h.result;
      operations = λ f o r o' h. takes_out 2 o r h.result;
      bound = λ m o r o' h. takes_out 10 o r h.result;
      grid = λ f o r o' h. takes_out grid_length o r h.result;
      evaluating = λ f x s o r s' o' h. takes_out 4 o r h.result;
      making = λ f s t o r s' t' o' h. takes_out 3 o r h.result;
      differencing = λ z y t o r t' o' h. takes r (cells_fit z o) (CellsLaid z o) h.result (cells_told z o) (cells_fit_lem z o);
      summing = λ z t y o r y' o' h. takes r (cells_fit z o) (CellsLaid z o) h.result (cells_told z o) (cells_fit_lem z o);
      opening = λ f₁ f₂ w o r w' o' h. takes r (open_fits w o) (OpenLaid w o) h.result (open_told w o) (open_fits_lem w o);
      continuing = λ f₁ f₂ B w s a r w' s' a' h.
          takes r (continue_fits w a) (ContinueLaid w a) h.result (continue_told w a) (continue_fits_lem w a);
      reporting = λ f₁ f₂ a n t o r t' o' h.
          takes r (report_fits a t o) (ReportLaid a t o) h.result (report_told a t o) (report_fits_lem a t o);
    }
