use Rattle.std.proofs.Common.{◌<◌, [], Ok, Err, sym, refl, ap, ◌∙◌, subst, rules}
use mathlib.Core.Logic.{∥∥₁_map, ∥∥₁_elim}
use native.Mathlib.Bridge.{le_prop}
use Rattle.shelf.specs.Catalogue.{all_results}
use Rattle.shelf.proofs.Facts.{few_policies}
use Rattle.shelf.proofs.Loads.{storing_all, from_empty, read_refused, read_whole, row_is, undone, filed_row}
use Rattle.shelf.proofs.Replies.{may_open, load_long, load_refused, load_read, same_shapes, older_shapes}
use Rattle.shelf.proofs.Upholding.{facts_are, held_is, in_state, at_catalogue}
use Rattle.shelf.proofs.shelf.Shelf.load.Goals as goal

pub returns-then-tape-gt-LONGEST_TAPE : goal.returns-then-tape-gt-LONGEST_TAPE
returns-then-tape-gt-LONGEST_TAPE c = record {
  lent = record { slots = refl; name_slots = refl };
  moves = λ K Q cat u.
      let a = load_long u c.args.tape.now c.if-tape-gt-LONGEST_TAPE.true in
      (ap (λ e. Err e) c.at.ensures ∙ sym a.0, record { stands = at_catalogue u a.1; stay = λ p h k. refl });
}

pub returns-in-Err : goal.returns-in-Err
returns-in-Err c = record {
  lent = record { slots = refl; name_slots = refl };
  moves = λ K Q cat u.
      let a = load_refused u c.args.tape.now c.in-Err.refusal c.if-tape-gt-LONGEST_TAPE.false (sym (c.in-Err.ensures K Q cat u)) in
      (ap (λ e. Err e) c.at-in-Err.ensures ∙ sym a.0, record { stands = at_catalogue u a.1; stay = λ p h k. refl });
}

pub invariant_of-self : goal.invariant_of-self
invariant_of-self c = record {
  stands = ∥∥₁_map c.args.self.now.stands (λ k.
      let u = k.1.1.1 in
      let m = may_open u (sym (c.in_default.ensures k.0 k.1.0 k.1.1.0 u)) in
      (k.0, (k.1.0, (k.1.1.0, undone u c.facts-facts.result (c.facts-facts.ensures.number ∙ sym (facts_are u)) c.roll_back.new.self m.0 (c.roll_back.ensures.restored c.args.self.now.store c.read_all.ensures.kept c.held-before.ensures.number)))));
}

pub returns-in-Err-read_all : goal.returns-in-Err-read_all
returns-in-Err-read_all c =
    let back = c.roll_back.ensures.restored c.args.self.now.store c.read_all.ensures.kept c.held-before.ensures.number in
    record {
      lent = record { slots = back.slots; name_slots = refl };
      moves = λ K Q cat u.
          let t = sym (c.in_default.ensures K Q cat u) in
          let m = may_open u t in
          let n = c.facts-facts.ensures.number ∙ sym (facts_are u) in
          let e = read_refused K c.facts-facts.result c.facts-facts.ensures.few (all_results K cat) c.args.tape.now c.args.self.now.store c.empty-stack.result (storing_all u c.facts-facts.result n) c.empty-stack.ensures.bare c.empty-stack.ensures.unended c.read_all.new.on c.read_all.new.stack c.in-Err-read_all.refused
          (c.in-Err-read_all.ensures.reads K [] u.algebra.closed u.algebra.tables_are (from_empty K c.facts-facts.result c.facts-facts.ensures.few (all_results K cat) c.args.tape.now c.args.self.now.store c.empty-stack.result (storing_all u c.facts-facts.result n) c.empty-stack.ensures.bare c.empty-stack.ensures.unended)) in
          let a = load_read u c.args.tape.now (Err c.in-Err-read_all.refused) c.if-tape-gt-LONGEST_TAPE.false t (row_is u c.facts-facts.result n c.args.tape.now _ e) in
          (sym a.0, record { stands = at_catalogue (undone u c.facts-facts.result n c.roll_back.new.self m.0 back) a.1; stay = λ p h k. same_shapes _ _ p refl });
    }

pub file-requires : goal.file-requires
file-requires c =
    ∥∥₁_elim c.args.self.now.stands le_prop (λ k.
    let u = k.1.1.1 in
    (may_open u (sym (c.in_default.ensures k.0 k.1.0 k.1.1.0 u))).1)

pub invariant_of-self-2 : goal.invariant_of-self-2
invariant_of-self-2 c = record {
  stands = ∥∥₁_map c.args.self.now.stands (λ k.
      let K = k.0 in
      let u = k.1.1.1 in
      let m = may_open u (sym (c.in_default.ensures K k.1.0 k.1.1.0 u)) in
      let n = c.facts-facts.ensures.number ∙ sym (facts_are u) in
      let l = read_whole K c.facts-facts.result c.facts-facts.ensures.few (all_results K k.1.1.0) c.args.tape.now c.args.self.now.store c.empty-stack.result (storing_all u c.facts-facts.result n) c.empty-stack.ensures.bare c.empty-stack.ensures.unended c.read_all.new.on c.read_all.new.stack _
      (c.in_default-read_all.ensures.reads K [] u.algebra.closed u.algebra.tables_are (from_empty K c.facts-facts.result c.facts-facts.ensures.few (all_results K k.1.1.0) c.args.tape.now c.args.self.now.store c.empty-stack.result (storing_all u c.facts-facts.result n) c.empty-stack.ensures.bare c.empty-stack.ensures.unended)) in
      (K, (k.1.0, (_, in_state (filed_row u c.facts-facts.result n c.read_all.new.on c.read_all.new.stack l.0 c.top.result c.read_all.ensures.kept m.0 m.1 l.1.1 c.top.ensures) c.file.ensures))));
}

pub overflow_cast-result : goal.overflow_cast-result
overflow_cast-result c = let few = few_policies c.args.self.now in search rules

pub returns : goal.returns
returns c = record {
  lent = record { slots = c.read_all.ensures.kept.slots; name_slots = refl };
  moves = λ K Q cat u.
      let t = sym (c.in_default.ensures K Q cat u) in
      let m = may_open u t in
      let n = c.facts-facts.ensures.number ∙ sym (facts_are u) in
      let l = read_whole K c.facts-facts.result c.facts-facts.ensures.few (all_results K cat) c.args.tape.now c.args.self.now.store c.empty-stack.result (storing_all u c.facts-facts.result n) c.empty-stack.ensures.bare c.empty-stack.ensures.unended c.read_all.new.on c.read_all.new.stack _
      (c.in_default-read_all.ensures.reads K [] u.algebra.closed u.algebra.tables_are (from_empty K c.facts-facts.result c.facts-facts.ensures.few (all_results K cat) c.args.tape.now c.args.self.now.store c.empty-stack.result (storing_all u c.facts-facts.result n) c.empty-stack.ensures.bare c.empty-stack.ensures.unended)) in
      let w = in_state (filed_row u c.facts-facts.result n c.read_all.new.on c.read_all.new.stack l.0 c.top.result c.read_all.ensures.kept m.0 m.1 l.1.1 c.top.ensures) c.file.ensures in
      let a = load_read u c.args.tape.now (Ok l.0) c.if-tape-gt-LONGEST_TAPE.false t (row_is u c.facts-facts.result n c.args.tape.now _ l.1.0) in (
        (λ i. Ok ((c.len-policy.ensures.value ∙ sym u.filing.are) i, (c.held.ensures.number ∙ held_is w) i)) ∙ sym a.0,
        record {
          stands = at_catalogue w a.1;
          stay = λ p h k. older_shapes _ _ c.top.result p c.file.ensures (subst (λ x. p < x) u.filing.are h);
        },
      );
}
