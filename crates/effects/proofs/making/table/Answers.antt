use Rattle.std.proofs.Common.{rules, ◌≡◌, refl}
use Rattle.effects.proofs.FromFn.{holds_by}
use Rattle.effects.proofs.making.table.Goals as goal

pub returns : goal.returns
returns g c = holds_by _ (λ s. s.0.now ≡ c.args.cell) (goal.F-post g c.args.cell) (λ f k y q j r. search rules) _ _ refl c.from_fn.ensures.items.each
