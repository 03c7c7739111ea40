use Rattle.std.proofs.Common.{◌-◌, sym, refl, ◌∙◌, subst, arith}
use Rattle.std.proofs.lemmas.Result.{err_from_is_err_and}
use Rattle.effects.specs.Cells.{cell}
use Rattle.diagram.specs.Nodes.{trees, meant, inserted, tested}
use Rattle.diagram.specs.Tree.{applied, mk}
use Rattle.diagram.specs.Building.{Made, Refused, Answer}
use Rattle.diagram.specs.Stores.{nodes, slots}
use Rattle.diagram.proofs.Nodes.{begins_length}
use Rattle.diagram.proofs.Combining.{cell_small, combined_terminals, low_first, low_second, high_first_later, high_second_later, combined_refused_low, combined_refused_high, combined_low_neat, combined_high_neat, combined, both, highs}
use Rattle.diagram.proofs.Records.{good}
use Rattle.diagram.proofs.store.Store.+combine.Goals as goal

pub returns-then-second-lt16 : goal.returns-then-second-lt16
returns-then-second-lt16 t c =
    let xs = nodes c.args.self.now in
    let op = cell c.args.table.now.cells in
    let J = applied op (32 - c.args.from) c.args.from (meant xs c.args.first) (meant xs c.args.second) in
    record {
      width = refl {a = slots c.args.self.now};
      gives = subst (Made 32 xs xs (inserted (trees xs) J) J) (sym c.cell.ensures)
          (combined_terminals 32 xs (good c.args.self.now) op (32 - c.args.from) c.args.from c.args.first c.args.second c.if-first-lt16.true c.if-second-lt16.true
          (cell_small c.args.table.now c.args.first c.args.second));
    }

pub combine-requires : goal.combine-requires
combine-requires t c =
    let P = c.split-sides.ensures c.args.from c.requires.from_below c.requires.first_later c.requires.second_later in
    let xs = nodes c.args.self.now in (
      omega (arith, P.below, P.from),
      (P.first.low_within, (P.second.low_within, (omega (arith, P.below), (low_first 32 c.args.from xs c.args.first c.args.second c.split-sides.result P, low_second 32 c.args.from xs c.args.first c.args.second c.split-sides.result P)))),
    )

pub returns-in_err-low : goal.returns-in_err-low
returns-in_err-low t c =
    let P = c.split-sides.ensures c.args.from c.requires.from_below c.requires.first_later c.requires.second_later in
    let s = c.args.self.now in
    let p = err_from_is_err_and c.from_residual.result c.from_residual.ensures.1 in
    record {
      width = c.combine.ensures.width;
      gives = subst (Answer 32 (slots s) (nodes s) (nodes c.combine.new.self) (inserted (trees (nodes s)) (both 32 c.args.from (nodes s) c.args.first c.args.second c.split-sides.result P (cell c.args.table.now.cells))) (both 32 c.args.from (nodes s) c.args.first c.args.second c.split-sides.result P (cell c.args.table.now.cells))) (sym p.1)
          (combined_refused_low 32 c.args.from (nodes s) c.args.first c.args.second c.split-sides.result P (cell c.args.table.now.cells) (slots s) (good c.args.self.now) (nodes c.combine.new.self) c.in_err-low.ensures.gives);
    }

pub combine-requires-2 : goal.combine-requires-2
combine-requires-2 t c =
    let P = c.split-sides.ensures c.args.from c.requires.from_below c.requires.first_later c.requires.second_later in
    let s = c.args.self.now in
    let s₁ = c.combine.new.self in
    let m = c.in_ok-low.ensures.gives in
    let l = begins_length (nodes s) (nodes s₁) m.begins in (
      omega (arith, P.below, P.from),
      (omega (arith, P.first.high_within, l), (omega (arith, P.second.high_within, l), (omega (arith, P.below), (high_first_later 32 c.args.from (nodes s) c.args.first c.args.second c.split-sides.result P (cell c.args.table.now.cells) (slots s) (good s) (nodes s₁) c.in_ok-low.low m, high_second_later 32 c.args.from (nodes s) c.args.first c.args.second c.split-sides.result P (cell c.args.table.now.cells) (slots s) (good s) (nodes s₁) c.in_ok-low.low m)))),
    )

pub returns-in_err-high : goal.returns-in_err-high
returns-in_err-high t c =
    let P = c.split-sides.ensures c.args.from c.requires.from_below c.requires.first_later c.requires.second_later in
    let s = c.args.self.now in
    let s₁ = c.combine.new.self in
    let s₂ = c.combine-2.new.self in
    let m = c.in_ok-low.ensures.gives in
    let p = err_from_is_err_and c.from_residual-in_err-high.result c.from_residual-in_err-high.ensures.1 in
    let r : Refused (slots s) (nodes s₁) (nodes s₂) (inserted (trees (nodes s₁)) (highs 32 c.args.from (nodes s) c.args.first c.args.second c.split-sides.result P (cell c.args.table.now.cells) (nodes s₁))) =
    subst (λ n. Refused n (nodes s₁) (nodes s₂) (inserted (trees (nodes s₁)) (highs 32 c.args.from (nodes s) c.args.first c.args.second c.split-sides.result P (cell c.args.table.now.cells) (nodes s₁)))) c.combine.ensures.width c.in_err-high.ensures.gives in
    record {
      width = c.combine-2.ensures.width ∙ c.combine.ensures.width;
      gives = subst (Answer 32 (slots s) (nodes s) (nodes s₂) (inserted (trees (nodes s)) (both 32 c.args.from (nodes s) c.args.first c.args.second c.split-sides.result P (cell c.args.table.now.cells))) (both 32 c.args.from (nodes s) c.args.first c.args.second c.split-sides.result P (cell c.args.table.now.cells))) (sym p.1)
          (combined_refused_high 32 c.args.from (nodes s) c.args.first c.args.second c.split-sides.result P (cell c.args.table.now.cells) (slots s) (good c.args.self.now) (nodes s₁) c.in_ok-low.low m (nodes s₂) r);
    }

pub test-requires : goal.test-requires
test-requires t c =
    let P = c.split-sides.ensures c.args.from c.requires.from_below c.requires.first_later c.requires.second_later in
    let s = c.args.self.now in
    let s₁ = c.combine.new.self in
    let s₂ = c.combine-2.new.self in
    let m = c.in_ok-low.ensures.gives in
    let m₂ = c.in_ok-high.ensures.gives in
    record {
      low_below = omega (arith, m.within, begins_length (nodes s₁) (nodes s₂) m₂.begins);
      high_below = m₂.within;
      fact_below = P.below;
      low_later = combined_low_neat 32 c.args.from (nodes s) c.args.first c.args.second c.split-sides.result P (cell c.args.table.now.cells) (slots s) (good c.args.self.now) (nodes s₁) c.in_ok-low.low m (nodes s₂) c.in_ok-high.high m₂;
      high_later = combined_high_neat 32 c.args.from (nodes s) c.args.first c.args.second c.split-sides.result P (cell c.args.table.now.cells) (slots s) (good c.args.self.now) (nodes s₁) c.in_ok-low.low m (nodes s₂) c.in_ok-high.high m₂;
    }

pub returns : goal.returns
returns t c =
    let P = c.split-sides.ensures c.args.from c.requires.from_below c.requires.first_later c.requires.second_later in
    let s = c.args.self.now in
    let s₁ = c.combine.new.self in
    let s₂ = c.combine-2.new.self in
    let s₃ = c.test.new.self in
    let m = c.in_ok-low.ensures.gives in
    let m₂ = c.in_ok-high.ensures.gives in
    let w = c.combine-2.ensures.width ∙ c.combine.ensures.width in
    record {
      width = c.test.ensures.width ∙ w;
      gives = combined 32 c.args.from (nodes s) c.args.first c.args.second c.split-sides.result P (cell c.args.table.now.cells) (slots s) (good c.args.self.now) (nodes s₁) c.in_ok-low.low m (nodes s₂) c.in_ok-high.high m₂ (nodes s₃) c.test.result
          (subst (λ n. Answer 32 n (nodes s₂) (nodes s₃) (tested (trees (nodes s₂)) c.split-sides.result.fact (meant (nodes s₂) c.in_ok-low.low) (meant (nodes s₂) c.in_ok-high.high)) (mk c.split-sides.result.fact (meant (nodes s₂) c.in_ok-low.low) (meant (nodes s₂) c.in_ok-high.high)) c.test.result) w c.test.ensures.gives);
    }
