use Rattle.std.proofs.Common.{sym, subst, arith}
use Rattle.diagram.specs.Nodes.{Good}
use Rattle.diagram.specs.Stores.{nodes}
use Rattle.diagram.proofs.Nodes.{good_take}
use Rattle.diagram.proofs.Records.{good}
use Rattle.diagram.proofs.Recording.{back_from}
use Rattle.diagram.proofs.store.Store.roll_back.Goals as goal

pub invariant_of-self : goal.invariant_of-self
invariant_of-self c =
    let s = c.args.self.now in
    record {
      cap = omega (arith, c.roll_back.ensures.width, s.cap);
      good = ∣ subst (Good 32) (sym c.roll_back.ensures.listed) (good_take 32 c.args.to (nodes s) (good s)) ∣₁;
    }

pub returns : goal.returns
returns c = back_from c.args.self.now _ c.args.to c.roll_back.ensures.width c.roll_back.ensures.listed
