use Rattle.std.proofs.Common.{is_some, sym, refl, ap, ◌∙◌}
use mathlib.Core.Logic.{∥∥₁_map}
use Rattle.shelf.specs.Drafts.{handed_back}
use Rattle.shelf.specs.declared.state.State.{State}
use Rattle.shelf.proofs.Replies.{abandon_foreign, abandon_ok, kept_shapes}
use Rattle.shelf.proofs.Upholding.{abandoned, in_state, at_catalogue}
use Rattle.shelf.proofs.shelf.Shelf.abandon.Goals as goal

pub returns-in_default : goal.returns-in_default
returns-in_default c = record {
  lent = record { slots = refl; name_slots = refl };
  moves = λ K Q cat u.
      let a = abandon_foreign u c.args.draft.id (sym (c.held_before.ensures.own K Q cat u) ∙ ap is_some c.in_default.is) in
      (sym (ap (handed_back c.args.draft) a.0), record { stands = at_catalogue u a.1; stay = λ p h k. refl });
}

pub invariant_of-self : goal.invariant_of-self
invariant_of-self c = record {
  stands = ∥∥₁_map c.args.self.now.stands (λ k.
      let u = k.1.1.1 in
      (k.0, (k.1.0, (_, in_state (abandoned u c.roll_back.new.self c.in-Some.before c.in-Some.ensures.before c.roll_back.ensures) c.close.ensures))));
}

pub returns : goal.returns
returns c = record {
  lent = record { slots = c.roll_back.ensures.slots; name_slots = refl };
  moves = λ K Q cat u.
      let a = abandon_ok u c.args.draft.id (sym (c.held_before.ensures.own K Q cat u) ∙ ap is_some c.in-Some.is) in (
        sym (ap (handed_back c.args.draft) a.0),
        record {
          stands = at_catalogue (in_state (abandoned u c.roll_back.new.self c.in-Some.before c.in-Some.ensures.before c.roll_back.ensures) c.close.ensures) a.1;
          stay = λ p h k. kept_shapes _ _ p (ap (λ (s : State). s.roots) c.close.ensures);
        },
      );
}
