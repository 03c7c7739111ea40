use Rattle.std.proofs.Common.{◌<◌, Ok, sym, refl, ap, ◌∙◌, subst, rules, not}
use mathlib.Core.Logic.{∥∥₁_map, ∥∥₁_elim}
use native.Mathlib.Bridge.{le_prop}
use Rattle.shelf.specs.Drafts.{handed_back}
use Rattle.shelf.proofs.Facts.{few_policies}
use Rattle.shelf.proofs.Replies.{owned, file_foreign, file_early, file_ok, older_shapes}
use Rattle.shelf.proofs.Upholding.{filed, in_state, at_catalogue}
use Rattle.shelf.proofs.shelf.Shelf.file.Goals as goal

pub returns-then-is_none : goal.returns-then-is_none
returns-then-is_none c = record {
  lent = record { slots = refl; name_slots = refl };
  moves = λ K Q cat u.
      let a = file_foreign u c.args.draft.id (sym (c.held_before.ensures.own K Q cat u) ∙ c.is_none.ensures ∙ ap not c.if-is_none.true) in
      (sym (ap (handed_back c.args.draft) a.0), record { stands = at_catalogue u a.1; stay = λ p h k. refl });
}

pub returns-then-not-self : goal.returns-then-not-self
returns-then-not-self c = record {
  lent = record { slots = refl; name_slots = refl };
  moves = λ K Q cat u.
      let own = sym (c.held_before.ensures.own K Q cat u) ∙ c.is_none.ensures ∙ ap not c.if-is_none.false in
      let e = owned u c.args.draft.id own in
      let a = file_early u c.args.draft.id own (sym (u.drafting e.0 e.1).holds.over ∙ c.if-not-self.true) in
      (sym (ap (handed_back c.args.draft) a.0), record { stands = at_catalogue u a.1; stay = λ p h k. refl });
}

pub file-requires : goal.file-requires
file-requires c =
    ∥∥₁_elim c.args.self.now.stands le_prop (λ k.
    let u = k.1.1.1 in
    let e = owned u c.args.draft.id (sym (c.held_before.ensures.own k.0 k.1.0 k.1.1.0 u) ∙ c.is_none.ensures ∙ ap not c.if-is_none.false) in
    (u.drafting e.0 e.1).room)

pub invariant_of-self : goal.invariant_of-self
invariant_of-self c = record {
  stands = ∥∥₁_map c.args.self.now.stands (λ k.
      let u = k.1.1.1 in
      let e = owned u c.args.draft.id (sym (c.held_before.ensures.own k.0 k.1.0 k.1.1.0 u) ∙ c.is_none.ensures ∙ ap not c.if-is_none.false) in
      (k.0, (k.1.0, (_, in_state (filed u c.top.result e.0 e.1 c.if-not-self.false c.top.ensures) c.file.ensures))));
}

pub overflow_cast-result : goal.overflow_cast-result
overflow_cast-result c = let few = few_policies c.args.self.now in search rules

pub returns : goal.returns
returns c = record {
  lent = record { slots = refl; name_slots = refl };
  moves = λ K Q cat u.
      let own = sym (c.held_before.ensures.own K Q cat u) ∙ c.is_none.ensures ∙ ap not c.if-is_none.false in
      let e = owned u c.args.draft.id own in
      let a = file_ok u c.args.draft.id own (sym (u.drafting e.0 e.1).holds.over ∙ c.if-not-self.false) in (
        ap (λ n. Ok n) c.len-policy.ensures.value ∙ sym (ap (handed_back c.args.draft) a.0),
        record {
          stands = at_catalogue (in_state (filed u c.top.result e.0 e.1 c.if-not-self.false c.top.ensures) c.file.ensures) a.1;
          stay = λ p h k. older_shapes _ _ c.top.result p c.file.ensures (subst (λ n. p < n) u.filing.are h);
        },
      );
}
