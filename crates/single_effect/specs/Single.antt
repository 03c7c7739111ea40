-- What the algebra of a single effect means.
use Rattle.std.specs.Prelude.{true, false}
use Rattle.effects.specs.Effects.{Effects, Questions}
use Rattle.single_effect.specs.declared.Single.{Single}
use Rattle.single_effect.specs.declared.Single.TheVariants.{Only}

-- one effect alone
abbrev pub single : Effects Single
single = record {
  count = 1;
  code = λ e. 0;
  effect = λ n. Only;
  not_applicable = Only;
  statable = λ e. true;
  failed = λ e. Only;
  combiners = 0;
  combined = λ k a b. Only;
}

-- no question
abbrev pub single_questions : Questions Single
single_questions = record { questions = 0; breaks = λ q a b. false }
