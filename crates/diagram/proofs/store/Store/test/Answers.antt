use Rattle.std.proofs.Common.{◌<◌, sym, refl, ◌∙◌, arith}
use Rattle.std.proofs.lemmas.Result.{err_from_is_err_and}
use Rattle.probing.specs.Model.{keys}
use Rattle.diagram.specs.Stores.{nodes, slots}
use Rattle.diagram.specs.Lasting.{held_slots}
use Rattle.diagram.proofs.Records.{good}
use Rattle.diagram.proofs.Steps.{made_same, made_some, made_none, good_after, numbered_below}
use Rattle.diagram.proofs.store.Store.test.Goals as goal

pub returns-then-low-high : goal.returns-then-low-high
returns-then-low-high c = record {
  width = refl;
  gives = made_same 32 (nodes c.args.self.now) (good c.args.self.now) c.args.fact c.args.low c.args.high c.requires.low_below c.requires.high_below c.if-low-high.true;
  still = tt;
}

pub invariant_of-self : goal.invariant_of-self
invariant_of-self c = record {
  cap = omega (arith, c.insert.ensures.width, c.args.self.now.cap);
  good = ∣ good_after 32 (nodes c.args.self.now) (good c.args.self.now) c.args.fact c.args.low c.args.high c.requires.low_below c.requires.high_below c.if-low-high.false
      c.requires.fact_below c.requires.low_later c.requires.high_later (slots c.args.self.now) (keys c.insert.new.self) c.insert.result c.insert.ensures.answer c.insert.ensures.listed ∣₁;
}

number_below : (c : goal.In_ok-number) → c.in_ok-number.number < slots c.args.self.now
number_below c = numbered_below _ (slots c.args.self.now) (nodes c.args.self.now) c.in_ok-number.number (held_slots c.args.self.now) (sym c.in_ok-number.ensures.ok_part ∙ c.insert.ensures.answer)

pub overflow_cast-result : goal.overflow_cast-result
overflow_cast-result c = omega (arith, number_below c, c.args.self.now.cap)

pub overflow_add-result : goal.overflow_add-result
overflow_add-result c = omega (arith, number_below c, c.args.self.now.cap)

pub returns-clause-gives : goal.returns-clause-gives
returns-clause-gives c =
    made_some 32 (nodes c.args.self.now) (good c.args.self.now) c.args.fact c.args.low c.args.high c.requires.low_below c.requires.high_below c.if-low-high.false
    c.requires.fact_below c.requires.low_later c.requires.high_later (slots c.args.self.now) (keys c.insert.new.self) c.in_ok-number.number (sym c.in_ok-number.ensures.ok_part ∙ c.insert.ensures.answer) c.insert.ensures.listed

pub returns-in_err-number-clause-gives : goal.returns-in_err-number-clause-gives
returns-in_err-number-clause-gives c =
    let p = err_from_is_err_and c.from_residual.result c.from_residual.ensures.1 in
    rw p.1 (made_none 32 (nodes c.args.self.now) (good c.args.self.now) c.args.fact c.args.low c.args.high c.requires.low_below c.requires.high_below c.if-low-high.false
    (slots c.args.self.now) (keys c.insert.new.self) (sym c.in_err-number.ensures.ok_part ∙ c.insert.ensures.answer) c.insert.ensures.listed)
