use Rattle.std.specs.Option.{ok_or}
use Rattle.tape.specs.declared.refusal.Refusal.{Refusal}
use Rattle.tape.specs.declared.refusal.Refusal.TheVariants.{NamesFull}
use Rattle.std.proofs.Common.{◌≡◌, ℕ, Some, None, Option, ◌<◌, Ok, Err, sym, refl, ap, ◌∙◌, arith, rules}
use Rattle.std.proofs.lemmas.Result.{err_from_is_err_and}
use mathlib.Core.Logic.{∥∥₁_map, ∥∥₁_elim}
use native.Mathlib.Bridge.{le_prop}
use Rattle.shelf.proofs.Upholding.{at_catalogue}
use Rattle.shelf.proofs.Replies.{same_shapes}
use Rattle.shelf.proofs.Spellings.{find_good, number_agrees, fits, refused, inserted, took, gone, declare_bad, declare_known, declare_new, declare_full}
use Rattle.shelf.proofs.shelf.Shelf.declare.Goals as goal

-- the refusal where there was no number
no_slot : (o : Option ℕ) (e : Refusal) → ok_or o NamesFull ≡ Err e → e ≡ NamesFull
no_slot (Some n) e h = let z : ◌≡◌ {A = ℕ} 0 1 = cc in absurd (omega arith)
no_slot None e h = cc

pub returns-then-not-is_good : goal.returns-then-not-is_good
returns-then-not-is_good c = record {
  lent = record { slots = refl; name_slots = refl };
  moves = λ K Q cat u.
      let d = declare_bad u c.args.name.now (sym c.if-not-is_good.ensures) in
      (d.0, record { stands = at_catalogue u d.1; stay = λ p h k. refl });
}

pub returns-in-Some : goal.returns-in-Some
returns-in-Some c = record {
  lent = record { slots = refl; name_slots = refl };
  moves = λ K Q cat u.
      let n = c.args.name.now in
      let g = sym c.if-not-is_good.ensures in
      let d = declare_known u n c.in-Some.fact g (sym (find_good cat n g) ∙ sym (c.in-Some.ensures K Q cat u)) in
      (d.0, record { stands = at_catalogue u d.1; stay = λ p h k. refl });
}

pub invariant_of-self : goal.invariant_of-self
invariant_of-self c =
    let n = c.args.name.now in
    let g = sym c.if-not-is_good.ensures in record {
      stands = ∥∥₁_map c.args.self.now.stands (λ k.
          let u = k.1.1.1 in
          let o = sym (number_agrees u n) ∙ sym (find_good k.1.1.0 n g) ∙ sym (c.in_default.ensures k.0 k.1.0 k.1.1.0 u) in
          (k.0, (k.1.0, inserted u n c.insert.new.self o c.insert.ensures.width c.insert.ensures.listed)));
    }

pub overflow_cast-result : goal.overflow_cast-result
overflow_cast-result c =
    let n = c.args.name.now in
    let g = sym c.if-not-is_good.ensures in
    let few : c.in_ok-number.number < 32 = ∥∥₁_elim c.args.self.now.stands le_prop (λ k.
    let u = k.1.1.1 in
    let o = sym (number_agrees u n) ∙ sym (find_good k.1.1.0 n g) ∙ sym (c.in_default.ensures k.0 k.1.0 k.1.1.0 u) in
    let t = took u n c.in_ok-number.number o (sym c.in_ok-number.ensures.ok_part ∙ c.insert.ensures.answer) in
    omega (arith, t.0, t.1, u.naming.few)) in
    search rules

pub returns : goal.returns
returns c = record {
  lent = record { slots = refl; name_slots = c.insert.ensures.width };
  moves = λ K Q cat u.
      let n = c.args.name.now in
      let g = sym c.if-not-is_good.ensures in
      let o = sym (number_agrees u n) ∙ sym (find_good cat n g) ∙ sym (c.in_default.ensures K Q cat u) in
      let t = took u n c.in_ok-number.number o (sym c.in_ok-number.ensures.ok_part ∙ c.insert.ensures.answer) in
      let d = declare_new u n g (number_agrees u n ∙ o) t.0 in (
        ap (λ k. Ok k) t.1 ∙ d.0,
        record {
          stands = at_catalogue (fits u n c.insert.new.self o t.0 c.insert.ensures.width c.insert.ensures.listed) d.1;
          stay = λ p h k. same_shapes _ _ p refl;
        },
      );
}

pub returns-in_err-number : goal.returns-in_err-number
returns-in_err-number c = record {
  lent = record { slots = refl; name_slots = c.insert.ensures.width };
  moves = λ K Q cat u.
      let n = c.args.name.now in
      let g = sym c.if-not-is_good.ensures in
      let o = sym (number_agrees u n) ∙ sym (find_good cat n g) ∙ sym (c.in_default.ensures K Q cat u) in
      let full = gone u n o (sym c.in_err-number.ensures.ok_part ∙ c.insert.ensures.answer) in
      let d = declare_full u n g (number_agrees u n ∙ o) full in
      let p = err_from_is_err_and c.from_residual.result c.from_residual.ensures.1 in (
        p.1 ∙ ap (λ x. Err x) (p.2 ∙ no_slot _ _ (sym c.in_err-number.ensures.value)) ∙ d.0,
        record {
          stands = at_catalogue (refused u n c.insert.new.self o full c.insert.ensures.width c.insert.ensures.listed) d.1;
          stay = λ p h k. same_shapes _ _ p refl;
        },
      );
}
