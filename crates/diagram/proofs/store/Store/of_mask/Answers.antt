use Rattle.std.proofs.Common.{sym, ap, ◌∙◌, take, arith}
use Rattle.diagram.specs.Tree.{ladder}
use Rattle.diagram.specs.Stores.{nodes}
use Rattle.diagram.proofs.Ladders.{ladder_neat}
use Rattle.diagram.proofs.Recording.{built, undone}
use Rattle.diagram.proofs.store.Store.of_mask.Goals as goal

pub returns-else-is_err : goal.returns-else-is_err
returns-else-is_err c = record {
  gives = λ F e. built c.args.self.now c.ladder-made.new.self F (ladder c.args.every c.args.mask 32 0) (ladder_neat c.args.every c.args.mask 32 32 0 (omega arith)) e
      c.ladder-made.ensures.width c.ladder-made.result (sym c.is_err.ensures.value ∙ c.if-is_err.false) c.ladder-made.ensures.gives;
}

pub returns-then-is_err : goal.returns-then-is_err
returns-then-is_err c = record {
  gives = λ F e. undone c.args.self.now _ F (ladder c.args.every c.args.mask 32 0) (ladder_neat c.args.every c.args.mask 32 32 0 (omega arith)) e
      (nodes c.ladder-made.new.self) (c.roll_back.ensures.width ∙ c.ladder-made.ensures.width) (c.roll_back.ensures.listed ∙ ap (λ n. take n (nodes c.ladder-made.new.self)) c.count-start.ensures.number)
      c.ladder-made.result (sym c.is_err.ensures.value ∙ c.if-is_err.true) c.ladder-made.ensures.gives;
}
