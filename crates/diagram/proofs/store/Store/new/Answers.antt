use Rattle.std.proofs.Common.{length, replicate, sym, ap, ◌∙◌, subst, arith}
use Rattle.probing.specs.Table.{free}
use Rattle.probing.proofs.Blank.{blank_node}
use Rattle.diagram.specs.Nodes.{Good}
use Rattle.diagram.proofs.Nodes.{good_none}
use Rattle.diagram.proofs.Recording.{recorded_none}
use Rattle.diagram.proofs.store.Store.new.Goals as goal

pub invariant_of-result : goal.invariant_of-result
invariant_of-result c = record {
  cap = omega (arith, c.new.ensures.width, c.requires);
  good = ∣ subst (Good 32) (sym c.new.ensures.listed) (good_none 32) ∣₁;
}

pub returns : goal.returns
returns c = record {
  bare = ap length c.new.ensures.listed;
  width = c.new.ensures.width;
  recorded = recorded_none _ c.new.ensures.listed;
  blank = c.new.ensures.blank ∙ ap (λ x. replicate (length c.args.slots.now) (free x)) (blank_node c.default.result c.default.ensures);
}
