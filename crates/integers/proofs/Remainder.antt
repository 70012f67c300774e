-- What holds of `remainder`, for M > 0: it is the one number r below M with M dividing a − r, two integers have the same remainder
-- if and only if M divides their difference, and the remainder of a sum, difference or product is computed from remainders.
-- Each rule for an operation: M divides the difference of the exact result and the result on the remainders, by an identity.
use mathlib.Core.Path.{◌≡◌, refl, sym, ◌∙◌, ap, subst}
use Prim.Native.Nat.{ℕ, suc, ◌+◌, ◌*◌, ◌-◌, ◌/◌, ◌%◌, ◌<◌}
use native.Mathlib.Nat.{mod-add-div, mod-lt, mod-eq_of_lt, mul-add-mod_self_left, mul-pos}
use native.Mathlib.Omega.{arith}
use lib.IntN.{ℤ, pos, negsuc, ◌+ℤ◌, ◌-ℤ◌, ◌*ℤ◌}
use Rattle.integers.specs.Modulo.{Divides, remainder, Remainders}
use Rattle.integers.proofs.Ring.{sub-push, sub_eq, sub-cancel, ring₂, ring₃, ring₄}
use Rattle.integers.proofs.Divisibility.{divides_self, divides-add, divides-sub, divides-mul-left, divides-mul-right, divides_coarse}

pub remainder_pos : (a M : ℕ) → remainder (pos a) M ≡ a % M
unfolding remainder
remainder_pos a M = refl

pub remainder-most : (a : ℤ) (M : ℕ) → 0 < M → remainder a M < M
unfolding remainder
remainder-most (pos a) M h = mod-lt a h
remainder-most (negsuc a) M h = omega arith

pub remainder-divides : (a : ℤ) (M : ℕ) → 0 < M → Divides M (a -ℤ pos (remainder a M))
unfolding remainder
remainder-divides (pos a) M h =
    record { quotient = pos (a / M); exact = simp sub-push (sub_eq _ _ _ _ (omega (arith, mod-add-div a M))) }
remainder-divides (negsuc a) M h =
    record {
      quotient = negsuc (a / M);
      exact = simp sub-push (sub_eq _ _ _ _ (omega (arith, mod-add-div a M, mod-lt a h)));
    }

pub remainders : Remainders
remainders a M h = record { below = remainder-most a M h; exact = remainder-divides a M h }

-- two numbers below M that differ by a multiple of M are equal
below_equal : (M r s : ℕ) → r < M → s < M → Divides M (pos r -ℤ pos s) → r ≡ s
below_equal M r s g h p = at p.quotient p.exact
  where
    multiple : (u v q : ℕ) → u < M → v < M → u ≡ M * q + v → u ≡ v
    multiple u v q g h e =
        sym (mod-eq_of_lt g) ∙ ap (λ x. x % M) e ∙ mul-add-mod_self_left M q v ∙ mod-eq_of_lt h

    at : (q : ℤ) → pos r -ℤ pos s ≡ pos M *ℤ q → r ≡ s
    at (pos q) e = multiple r s q g h (omega (arith, sub-cancel _ _ _ _ (simp sub-push at e)))
    at (negsuc q) e = sym (multiple s r (suc q) h g (omega (arith, sub-cancel _ _ _ _ (simp sub-push at e))))

pub remainder_unique : (a : ℤ) (M r : ℕ) → r < M → Divides M (a -ℤ pos r) → remainder a M ≡ r
remainder_unique a M r h p =
    below_equal M (remainder a M) r (remainder-most a M (omega arith)) h
    (subst (Divides M) (between a (pos r) (pos (remainder a M))) (divides-sub p (remainder-divides a M (omega arith))))
  where
    between : (a b c : ℤ) → (a -ℤ b) -ℤ (a -ℤ c) ≡ c -ℤ b
    between = ring₃ _ λ m n k l i j. simp sub-push (sub_eq _ _ _ _ (omega arith))

pub congruent→equal : (a b : ℤ) (M : ℕ) → 0 < M → Divides M (a -ℤ b) → remainder a M ≡ remainder b M
congruent→equal a b M h p =
    remainder_unique a M (remainder b M) (remainder-most b M h)
    (subst (Divides M) (through a b (pos (remainder b M))) (divides-add p (remainder-divides b M h)))
  where
    through : (a b c : ℤ) → (a -ℤ b) +ℤ (b -ℤ c) ≡ a -ℤ c
    through = ring₃ _ λ m n k l i j. simp sub-push (sub_eq _ _ _ _ (omega arith))

pub equal→congruent : (a b : ℤ) (M : ℕ) → 0 < M → remainder a M ≡ remainder b M → Divides M (a -ℤ b)
equal→congruent a b M h e =
    subst (Divides M) (through a b (pos (remainder b M)))
    (divides-sub (rw e at (remainder-divides a M h)) (remainder-divides b M h))
  where
    through : (a b c : ℤ) → (a -ℤ c) -ℤ (b -ℤ c) ≡ a -ℤ b
    through = ring₃ _ λ m n k l i j. simp sub-push (sub_eq _ _ _ _ (omega arith))

pub remainder-add : (a b : ℤ) (M : ℕ) → 0 < M → remainder (a +ℤ b) M ≡ (remainder a M + remainder b M) % M
unfolding remainder
remainder-add a b M h =
    congruent→equal (a +ℤ b) (pos (remainder a M + remainder b M)) M h
    (subst (Divides M) (regroup a b (pos (remainder a M)) (pos (remainder b M)))
    (divides-add (remainder-divides a M h) (remainder-divides b M h)))
  where
    regroup : (a b r s : ℤ) → (a -ℤ r) +ℤ (b -ℤ s) ≡ (a +ℤ b) -ℤ (r +ℤ s)
    regroup = ring₄ _ λ m n k l i j g h. simp sub-push (sub_eq _ _ _ _ (omega arith))

pub remainder-sub : (a b : ℤ) (M : ℕ) → 0 < M → remainder (a -ℤ b) M ≡ (remainder a M + (M - remainder b M)) % M
unfolding remainder
remainder-sub a b M h =
    congruent→equal (a -ℤ b) (pos (remainder a M + (M - remainder b M))) M h
    (subst (Divides M) (regroup a b (remainder a M) (remainder b M) (remainder-most b M h))
    (divides-sub (divides-sub (remainder-divides a M h) (remainder-divides b M h)) (divides_self M)))
  where
    regroup : (a b : ℤ) (r s : ℕ) → s < M → (a -ℤ pos r) -ℤ (b -ℤ pos s) -ℤ pos M ≡ (a -ℤ b) -ℤ pos (r + (M - s))
    regroup = ring₂ _ λ m n k l r s h. simp sub-push (sub_eq _ _ _ _ (omega arith))

pub remainder-mul : (a b : ℤ) (M : ℕ) → 0 < M → remainder (a *ℤ b) M ≡ (remainder a M * remainder b M) % M
unfolding remainder
remainder-mul a b M h =
    congruent→equal (a *ℤ b) (pos (remainder a M * remainder b M)) M h
    (subst (Divides M) (regroup a b (pos (remainder a M)) (pos (remainder b M)))
    (divides-add (divides-mul-right b (remainder-divides a M h)) (divides-mul-left (pos (remainder a M)) (remainder-divides b M h))))
  where
    regroup : (a b r s : ℤ) → (a -ℤ r) *ℤ b +ℤ r *ℤ (b -ℤ s) ≡ a *ℤ b -ℤ r *ℤ s
    regroup = ring₄ _ λ m n k l i j g h. simp sub-push (sub_eq _ _ _ _ (omega arith))

pub remainder_coarse : (a : ℤ) (K M : ℕ) → 0 < K → 0 < M → remainder a (K * M) % M ≡ remainder a M
unfolding remainder
remainder_coarse a K M g h =
    sym (congruent→equal a (pos (remainder a (K * M))) M h (divides_coarse K M (remainder-divides a (K * M) (mul-pos g h))))
