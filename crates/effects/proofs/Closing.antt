-- The codes of a lawful algebra are closed.
use Rattle.effects.specs.Effects.{Effects, Lawful}
use Rattle.effects.specs.Codes.{Closed, codes}

pub closed : {E : Type 0} (M : Effects E) → Lawful M → Closed (codes M)
closed M L = record {
  few = L.few;
  few_combiners = L.few_combiners;
  not_applicable_below = L.code_below M.not_applicable;
  failed_below = λ e _. L.code_below (M.failed (M.effect e));
  combined_below = λ k a b _ _. L.code_below (M.combined k (M.effect a) (M.effect b));
}
