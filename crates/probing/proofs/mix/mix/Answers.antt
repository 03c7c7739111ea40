use Rattle.std.proofs.Common.{refl}
use Rattle.probing.specs.Mixing.{mixed}
use Rattle.probing.proofs.mix.mix.Goals as goal

pub returns : goal.returns
unfolding mixed
returns c = refl
