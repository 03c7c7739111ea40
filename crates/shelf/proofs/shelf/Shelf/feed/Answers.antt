use Rattle.std.proofs.Common.{sym, refl, ap, ◌∙◌, not}
use mathlib.Core.Logic.{∥∥₁_map}
use Rattle.shelf.specs.Drafts.{handed_on}
use Rattle.shelf.proofs.Replies.{owned, feed_foreign, feed_by, same_shapes}
use Rattle.shelf.proofs.Stepped.{answer_is, step_upholds}
use Rattle.shelf.proofs.Upholding.{facts_are, at_catalogue}
use Rattle.shelf.proofs.shelf.Shelf.feed.Goals as goal

pub returns-then-is_none : goal.returns-then-is_none
returns-then-is_none c = record {
  lent = record { slots = refl; name_slots = refl };
  moves = λ K Q cat u.
      let a = feed_foreign u c.args.draft.id c.args.bytes.now (sym (c.held_before.ensures.own K Q cat u) ∙ c.is_none.ensures ∙ ap not c.if-is_none.true) in
      (sym (ap (handed_on c.args.draft) a.0), record { stands = at_catalogue u a.1; stay = λ p h k. refl });
}

pub invariant_of-self : goal.invariant_of-self
invariant_of-self c = record {
  stands = ∥∥₁_map c.args.self.now.stands (λ k.
      let K = k.0 in
      let u = k.1.1.1 in
      let e = owned u c.args.draft.id (sym (c.held_before.ensures.own k.0 k.1.0 k.1.1.0 u) ∙ c.is_none.ensures ∙ ap not c.if-is_none.false) in
      (K, (k.1.0, (_, step_upholds u e.0 e.1 c.facts-facts.result (c.facts-facts.ensures.number ∙ sym (facts_are u)) c.facts-facts.ensures.few c.args.bytes.now c.step.new.on c.step.new.stack c.step.ensures.kept c.step.result (c.step.ensures.stands K _ u.algebra.closed u.algebra.tables_are (u.drafting e.0 e.1).holds)))));
}

pub returns-in-Ok : goal.returns-in-Ok
returns-in-Ok c = record {
  lent = record { slots = c.step.ensures.kept.slots; name_slots = refl };
  moves = λ K Q cat u.
      let own = sym (c.held_before.ensures.own K Q cat u) ∙ c.is_none.ensures ∙ ap not c.if-is_none.false in
      let e = owned u c.args.draft.id own in
      let sd = c.step.ensures.stands K _ u.algebra.closed u.algebra.tables_are (u.drafting e.0 e.1).holds in
      let n = c.facts-facts.ensures.number ∙ sym (facts_are u) in
      let f = feed_by u c.args.draft.id c.args.bytes.now _ own refl in
      let w = step_upholds u e.0 e.1 c.facts-facts.result n c.facts-facts.ensures.few c.args.bytes.now c.step.new.on c.step.new.stack c.step.ensures.kept c.step.result sd in
      let a = answer_is u e.0 e.1 c.facts-facts.result n c.facts-facts.ensures.few c.args.bytes.now c.step.new.on c.step.new.stack c.step.ensures.kept c.step.result sd in
      (ap (handed_on c.args.draft) (sym c.in-Ok.is ∙ a ∙ sym f.0), record { stands = at_catalogue w f.1; stay = λ p h k. same_shapes _ _ p refl });
}

pub returns-in-Err : goal.returns-in-Err
returns-in-Err c = record {
  lent = record { slots = c.step.ensures.kept.slots; name_slots = refl };
  moves = λ K Q cat u.
      let own = sym (c.held_before.ensures.own K Q cat u) ∙ c.is_none.ensures ∙ ap not c.if-is_none.false in
      let e = owned u c.args.draft.id own in
      let sd = c.step.ensures.stands K _ u.algebra.closed u.algebra.tables_are (u.drafting e.0 e.1).holds in
      let n = c.facts-facts.ensures.number ∙ sym (facts_are u) in
      let f = feed_by u c.args.draft.id c.args.bytes.now _ own refl in
      let w = step_upholds u e.0 e.1 c.facts-facts.result n c.facts-facts.ensures.few c.args.bytes.now c.step.new.on c.step.new.stack c.step.ensures.kept c.step.result sd in
      let a = answer_is u e.0 e.1 c.facts-facts.result n c.facts-facts.ensures.few c.args.bytes.now c.step.new.on c.step.new.stack c.step.ensures.kept c.step.result sd in
      (ap (handed_on c.args.draft) (sym c.in-Err.is ∙ a ∙ sym f.0), record { stands = at_catalogue w f.1; stay = λ p h k. same_shapes _ _ p refl });
}
