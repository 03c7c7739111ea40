-- The first request at which two trees break a question.
use Rattle.std.proofs.Common.{◌≡◌, ℕ, zero, suc, ◌+◌, ◌-◌, ◌%◌, ◌^◌, ◌<◌, ◌≤◌, Bool, true, false, List, Some, None, Option, sym, ◌∙◌, subst, ap₂, inl, inr, arith, pow_mono}
use Rattle.std.proofs.lemmas.Bool.{cases_Bool, cases_eq, cases_lt, both_ways}
use Rattle.tape.specs.Requests.{Before}
use Rattle.diagram.specs.Requests.{present, Witness}
use Rattle.diagram.specs.Counted.{Same, Ignores}
use Rattle.diagram.specs.Tree.{Tree, says, Neat, low, high}
use Rattle.diagram.specs.Questions.{asks, Breaks, Leads, FirstFrom, WitnessFrom}
use Rattle.diagram.proofs.Canon.{at_later, sides}
use Rattle.diagram.proofs.Applied.{at_put}
use Rattle.diagram.proofs.Fixing.{mod_lt}
use Rattle.diagram.proofs.Requests.{zero_present, add_fact, AddFact, facts_one, present_mod, present_beyond}

-- one fact more that counts
leads_more : (n k r s : ℕ) → present r k ≡ present s k → Leads n (suc k) r s → Leads n k r s
leads_more n k r s e (inl a) = inl (λ f h l. elim (cases_eq f k) [ inl q ↦ subst (λ x. present r x ≡ present s x) (sym q) e | inr d ↦ a f (omega arith) l ])
leads_more n k r s e (inr b) = inr (record {
  fact = b.fact;
  from = omega (arith, b.from);
  lacks = b.lacks;
  has = b.has;
  agree = λ f h l. elim (cases_eq f k) [ inl q ↦ subst (λ x. present r x ≡ present s x) (sym q) e | inr d ↦ b.agree f (omega arith) l ];
})

leads_here : (n k r s : ℕ) → present r k ≡ false → present s k ≡ true → Leads n k r s
leads_here n k r s a b = inr (record { fact = k; from = omega arith; lacks = a; has = b; agree = λ f h l. absurd (omega arith) })

-- r lacks fact k
leads_bare : (n k r s : ℕ) → present r k ≡ false → (present s k ≡ false → Leads n (suc k) r s) → Leads n k r s
leads_bare n k r s a g = elim (cases_Bool (present s k)) [ inl t ↦ leads_here n k r s a t | inr t ↦ leads_more n k r s (a ∙ sym t) (g t) ]

zero_leads : (n m k s : ℕ) → n ≡ k + m → Leads n k 0 s
zero_leads n zero k s e = inl (λ f h l. absurd (omega arith))
zero_leads n (suc m) k s e = leads_bare n k 0 s (zero_present k) (λ _. zero_leads n m (suc k) s (omega arith))

pub first_zero : (n k : ℕ) (Q : ℕ → Type 0) → k ≤ n → Q 0 → 0 < 2 ^ n → FirstFrom n k Q 0
first_zero n k Q h q b = record { within = b; bare = λ f _. zero_present f; breaks = q; leads = λ s _ _. zero_leads n (n - k) k s (omega arith) }

pub first_skip : (n d k : ℕ) (Q : ℕ → Type 0) (r : ℕ) → FirstFrom n (k + d) Q r → FirstFrom n k Q r
first_skip n zero k Q r w = subst (λ x. FirstFrom n x Q r) (omega arith) w
first_skip n (suc d) k Q r w =
    let w' : FirstFrom n (suc k) Q r = first_skip n d (suc k) Q r (subst (λ x. FirstFrom n x Q r) (omega arith) w) in
    record {
      within = w'.within;
      bare = λ f h. w'.bare f (omega arith);
      breaks = w'.breaks;
      leads = λ s h q. leads_bare n k r s (w'.bare k (omega arith)) (λ _. w'.leads s h q);
    }

-- a test of f
module _ (n f : ℕ) (q : List Bool) (t u : Tree) (wt : Neat n f t) (wu : Neat n f u) where
  low_says : (x : Tree) → Neat n f x → (s : ℕ) → present s f ≡ false → says (low f x) s ≡ says x s
  low_says x w s e = (sides n f x w).at_low (present s) ∙ at_put n f x (present s) false w e

  high_says : (x : Tree) → Neat n f x → (s : ℕ) → present s f ≡ true → says (high f x) s ≡ says x s
  high_says x w s e = (sides n f x w).at_high (present s) ∙ at_put n f x (present s) true w e

  same_low : (s : ℕ) → present s f ≡ false → asks q (says (low f t) s) (says (low f u) s) ≡ asks q (says t s) (says u s)
  same_low s e = ap₂ (asks q) (low_says t wt s e) (low_says u wu s e)

  same_high : (s : ℕ) → present s f ≡ true → asks q (says (high f t) s) (says (high f u) s) ≡ asks q (says t s) (says u s)
  same_high s e = ap₂ (asks q) (high_says t wt s e) (high_says u wu s e)

  pub first_low : (r : ℕ) → FirstFrom n (suc f) (Breaks q (says (low f t)) (says (low f u))) r → FirstFrom n f (Breaks q (says t) (says u)) r
  first_low r w = record {
    within = w.within;
    bare = λ g h. w.bare g (omega arith);
    breaks = sym (same_low r (w.bare f (omega arith))) ∙ w.breaks;
    leads = λ s h b. leads_bare n f r s (w.bare f (omega arith)) (λ e. w.leads s h (same_low s e ∙ b));
  }

  pub first_high : (r : ℕ) → f < n → ((s : ℕ) → s < 2 ^ n → Breaks q (says (low f t)) (says (low f u)) s → ⊥)
      → FirstFrom n (suc f) (Breaks q (says (high f t)) (says (high f u))) r → FirstFrom n f (Breaks q (says t) (says u)) (r + 2 ^ f)
  first_high r hf no-low w =
      let a = add_fact n f r hf w.within (w.bare f (omega arith)) in
      let later : (x : Tree) → Neat n (suc f) x → says x (r + 2 ^ f) ≡ says x r =
      λ x wx. at_later n (suc f) x wx (present (r + 2 ^ f)) (present r) (λ g h _. a.there g (omega arith)) in
      let eq : asks q (says (high f t) r) (says (high f u) r) ≡ asks q (says t (r + 2 ^ f)) (says u (r + 2 ^ f)) =
      sym (ap₂ (asks q) (later (high f t) (sides n f t wt).high_neat) (later (high f u) (sides n f u wu).high_neat)) ∙ same_high (r + 2 ^ f) a.here in
      record {
        within = a.within;
        bare = λ g h. a.there g (omega arith) ∙ w.bare g (omega arith);
        breaks = sym eq ∙ w.breaks;
        leads = λ s h b. elim (cases_Bool (present s f)) [
          | inl e ↦ leads_more n f (r + 2 ^ f) s (a.here ∙ sym e) (moved s a (w.leads s h (same_high s e ∙ b)))
          | inr e ↦ absurd (no-low s h (same_low s e ∙ b))
        ];
      }
    where
      moved : (s : ℕ) → AddFact n f r → Leads n (suc f) r s → Leads n (suc f) (r + 2 ^ f) s
      moved s a (inl g) = inl (λ x h l. a.there x (omega arith) ∙ g x h l)
      moved s a (inr b) = inr (record {
        fact = b.fact;
        from = b.from;
        lacks = a.there b.fact (omega (arith, b.from)) ∙ b.lacks;
        has = b.has;
        agree = λ x h l. a.there x (omega arith) ∙ b.agree x h l;
      })

  pub first_none : ((s : ℕ) → s < 2 ^ n → Breaks q (says (low f t)) (says (low f u)) s → ⊥) → ((s : ℕ) → s < 2 ^ n → Breaks q (says (high f t)) (says (high f u)) s → ⊥)
      → (s : ℕ) → s < 2 ^ n → Breaks q (says t) (says u) s → ⊥
  first_none no-low no-high s h b = elim (cases_Bool (present s f)) [
    | inl e ↦ no-high s h (same_high s e ∙ b)
    | inr e ↦ no-low s h (same_low s e ∙ b)
  ]

-- with all facts counted, it is the first of all
pub first_all : (n : ℕ) (Q : ℕ → Type 0) (o : Option ℕ) → WitnessFrom n 0 Q o → Witness n Q o
first_all n Q (Some r) w = record {
  within = w.within;
  breaks = w.breaks;
  first = λ s h q d. go s h d (w.leads s h q);
}
  where
    go : (s : ℕ) → s < 2 ^ n → (s ≡ r → ⊥) → Leads n 0 r s → Before r s
    go s h d (inl a) = absurd (d (sym (facts_one n r s w.within h (λ f l. a f (omega arith) l))))
    go s h d (inr b) = (b.fact, (λ f l. b.agree f (omega arith) l), b.lacks, b.has)
first_all n Q None w = w

-- facts that neither function looks at change nothing
pub first_facts : (n m : ℕ) → n ≤ m → (q : List Bool) (F G : ℕ → ℕ) → Ignores n F → Ignores n G → (o : Option ℕ) → Witness m (Breaks q F G) o → Witness n (Breaks q F G) o
first_facts n m h q F G f g None w = λ s l b. w s (omega (arith, pow_mono h)) b
first_facts n m h q F G f g (Some r) w = record {
  within = subst (λ x. x < 2 ^ n) again (mod_lt r n);
  breaks = w.breaks;
  first = λ s l b d. w.first s (omega (arith, pow_mono h)) b d;
}
  where
    at_rest : Breaks q F G (r % 2 ^ n)
    at_rest = ap₂ (asks q) (sym (f r)) (sym (g r)) ∙ w.breaks

    later : Before r (r % 2 ^ n) → ⊥
    later (x, agree, lacks, has) = elim (cases_lt x n) [
      | inl l ↦ both_ways (present r x) lacks (present_mod n x r l ∙ has)
      | inr l ↦ both_ways (present (r % 2 ^ n) x) (present_beyond n x (r % 2 ^ n) (mod_lt r n) l) has
    ]

    again : r % 2 ^ n ≡ r
    again = elim (cases_eq (r % 2 ^ n) r) [
      | inl e ↦ e
      | inr d ↦ absurd (later (w.first (r % 2 ^ n) (omega (arith, pow_mono h, mod_lt r n)) at_rest d))
    ]

-- nor do other functions that are the same at every request
pub first_same : (n : ℕ) (q : List Bool) (F G F' G' : ℕ → ℕ) → Same n F F' → Same n G G' → (o : Option ℕ) → Witness n (Breaks q F G) o → Witness n (Breaks q F' G') o
first_same n q F G F' G' f g None w = λ s l b. w s l (ap₂ (asks q) (f s l) (g s l) ∙ b)
first_same n q F G F' G' f g (Some r) w = record {
  within = w.within;
  breaks = sym (ap₂ (asks q) (f r w.within) (g r w.within)) ∙ w.breaks;
  first = λ s l b d. w.first s l (ap₂ (asks q) (f s l) (g s l) ∙ b) d;
}
