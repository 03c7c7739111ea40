use Rattle.std.proofs.Common.{Err, sym, refl, ap, ◌∙◌}
use mathlib.Core.Logic.{∥∥₁_map}
use Rattle.std.proofs.lemmas.Result.{err_from_is_err_and}
use Rattle.shelf.specs.Drafts.{given_out}
use Rattle.shelf.specs.States.{opened_state}
use Rattle.shelf.specs.declared.state.State.{State}
use Rattle.shelf.proofs.Replies.{may_open, open_refused, open_ok, kept_shapes}
use Rattle.shelf.proofs.Upholding.{opened, in_state, at_catalogue}
use Rattle.shelf.proofs.shelf.Shelf.open.Goals as goal

pub returns-in_err-refuse_opening : goal.returns-in_err-refuse_opening
returns-in_err-refuse_opening c =
    let p = err_from_is_err_and c.from_residual.result c.from_residual.ensures.1 in
    record {
      lent = record { slots = refl; name_slots = refl };
      moves = λ K Q cat u.
          let o = open_refused u _ (sym (c.in_err-refuse_opening.ensures K Q cat u)) in
          (p.1 ∙ ap (λ x. Err x) p.2 ∙ sym (ap given_out o.0), record { stands = at_catalogue u o.1; stay = λ p h k. refl });
    }

pub invariant_of-self : goal.invariant_of-self
invariant_of-self c = record {
  stands = ∥∥₁_map c.args.self.now.stands (λ k.
      let u = k.1.1.1 in
      let m = may_open u (sym (c.in_ok-refuse_opening.ensures k.0 k.1.0 k.1.1.0 u)) in
      (k.0, (k.1.0, (_, in_state (opened u c.empty-self.result c.empty-self.ensures.bare c.empty-self.ensures.unended m.0 m.1) (c.open.ensures ∙ ap (opened_state c.args.self.now.state) c.held-held.ensures.number)))));
}

pub returns : goal.returns
returns c = record {
  lent = record { slots = refl; name_slots = refl };
  moves = λ K Q cat u.
      let t = sym (c.in_ok-refuse_opening.ensures K Q cat u) in
      let m = may_open u t in
      let o = open_ok u t in (
        sym (ap given_out o.0),
        record {
          stands = at_catalogue (in_state (opened u c.empty-self.result c.empty-self.ensures.bare c.empty-self.ensures.unended m.0 m.1) (c.open.ensures ∙ ap (opened_state c.args.self.now.state) c.held-held.ensures.number)) o.1;
          stay = λ p h k. kept_shapes _ _ p (ap (λ (s : State). s.roots) c.open.ensures);
        },
      );
}
