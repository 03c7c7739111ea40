-- A search on its way.
use Rattle.std.proofs.Common.{◌≡◌, ℕ, ◌+◌, ◌-◌, ◌%◌, ◌<◌, ◌≤◌, Bool, true, false, List, length, get_or, sym, ap, ◌∙◌, subst, inl, inr, mod-lt, arith}
use Rattle.std.proofs.lemmas.Bool.{cases_order}
use Rattle.probing.specs.Table.{Holds, serials, stored, gap, home, Other, Nowhere}
use Rattle.probing.specs.declared.Slot.{Slot}
use Rattle.probing.proofs.Ring.{gap_same, gap_below}
use Rattle.probing.proofs.Places.{holds_same, holds_read}
use Rattle.probing.proofs.Slots.{serial_read, key_read, long_serials}

module _ {K : Type 0} (ss : List (Slot K)) where
  pub ringed : (sc : ℕ) → 0 < length ss → home (length (serials ss)) sc < length (serials ss)
  ringed sc p = mod-lt sc (omega (arith, long_serials ss))

  -- so many steps from home, round the slots or round their serials
  pub as_ring : (sc x i gone : ℕ) → x ≡ sc → gap (length ss) (x % length ss) i ≡ gone → gap (length (serials ss)) (home (length (serials ss)) sc) i ≡ gone
  as_ring sc x i gone e a = ap (λ n. gap n (home n sc) i) (long_serials ss) ∙ ap (λ y. gap (length ss) (y % length ss) i) (sym e) ∙ a

  module _ (sc : ℕ) (i gone : ℕ) (in-range : i < length ss) (at : gap (length (serials ss)) (home (length (serials ss)) sc) i ≡ gone) where
    module _ (same : K → K → Bool) (k : K) (passed : (p : ℕ) → p < length (serials ss) → gap (length (serials ss)) (home (length (serials ss)) sc) p < gone → Other same (serials ss) (stored ss) k p) (here : Other same (serials ss) (stored ss) k i) where
      pub passed_more : (p : ℕ) → p < length (serials ss) → gap (length (serials ss)) (home (length (serials ss)) sc) p < gone + 1 → Other same (serials ss) (stored ss) k p
      passed_more p l g = elim (cases_order (gap (length (serials ss)) (home (length (serials ss)) sc) p) gone) [
        | inl e ↦ subst (Other same (serials ss) (stored ss) k) (sym (gap_same (length (serials ss)) (home (length (serials ss)) sc) (ringed sc (omega arith)) p i l (omega (arith, long_serials ss)) (e ∙ sym at))) here
        | inr o ↦ elim o [ inl a ↦ passed p l a | inr b ↦ absurd (omega arith) ]
      ]

  pub passed_all : (sc : ℕ) (same : K → K → Bool) (k : K) → 0 < length ss → ((p : ℕ) → p < length (serials ss) → gap (length (serials ss)) (home (length (serials ss)) sc) p < length ss → Other same (serials ss) (stored ss) k p) → Nowhere same (serials ss) (stored ss) k
  passed_all sc same k some passed p l = passed p l (omega (arith, gap_below (length (serials ss)) (home (length (serials ss)) sc) (ringed sc some) p l, long_serials ss))

  -- What the reads at a taken bucket tell: of slot i, whose serial it is, and of the slot to which the serial leads. The reads
  -- come with defaults of their own, d and e.
  module _ (same : K → K → Bool) (k : K) (i : ℕ) (inside : i < length ss) (d e : Slot K) (counted : (h : ℕ) → get_or (serials ss) h 0 ≤ length ss) (taken : (get_or ss i d).serial ≡ 0 → ⊥) where
    read : get_or (serials ss) i 0 ≡ (get_or ss i d).serial
    read = serial_read ss i (get_or ss i d) (holds_read ss i d inside)

    pub led : (get_or ss i d).serial - 1 < length ss
    led = let r = read in omega (arith, counted i)

    key_here : (l : K) → Holds (stored ss) (get_or (serials ss) i 0 - 1) l → l ≡ (get_or ss ((get_or ss i d).serial - 1) e).key
    key_here l f =
        let at = (get_or ss i d).serial - 1 in
        let f' : Holds (stored ss) at l = subst (λ m. Holds (stored ss) (m - 1) l) read f in
        holds_same (stored ss) at l (get_or ss at e).key f' (key_read ss at (get_or ss at e) (holds_read ss at e led))

    pub other_here : same (get_or ss ((get_or ss i d).serial - 1) e).key k ≡ false → Other same (serials ss) (stored ss) k i
    other_here q = (let r = read in omega arith, λ l f. ap (λ x. same x k) (key_here l f) ∙ q)

    pub there_here : same (get_or ss ((get_or ss i d).serial - 1) e).key k ≡ true → (l : K) → 0 < get_or (serials ss) i 0 → Holds (stored ss) (get_or (serials ss) i 0 - 1) l → same l k ≡ true
    there_here q l p f = ap (λ x. same x k) (key_here l f) ∙ q
