use Rattle.std.proofs.Common.{◌≤◌, ◌^◌, sym, ◌∙◌, arith}
use Rattle.std.proofs.Math.Pow.{pow_mono}
use Rattle.std.proofs.lemmas.Bool.{le-ltb, lt-leb}
use Rattle.tape.proofs.decode.beyond.Goals as goal

-- 32 facts are all the facts of a mask
pub returns-else-facts-lt32 : goal.returns-else-facts-lt32
returns-else-facts-lt32 c =
    let p : 2 ^ 32 ≤ 2 ^ c.args.facts = pow_mono c.if-facts-lt32.false in
    le-ltb _ _ c.if-facts-lt32.false ∙ sym (lt-leb _ _ (omega arith))
