use Rattle.std.proofs.Common.{codes, rules, sym, ap, arith}
use Rattle.std.proofs.lemmas.Slice.Eq.{text_from_reads}
use Rattle.composing.specs.Commands.{verb_of}
use Rattle.composing.proofs.verb.Verb.of.Goals as goal

pub returns-in-declare : goal.returns-in-declare
returns-in-declare c = ap verb_of (sym (text_from_reads c.args.word.now (codes "declare") (omega arith) (search rules)))

pub returns-in-compare : goal.returns-in-compare
returns-in-compare c = ap verb_of (sym (text_from_reads c.args.word.now (codes "compare") (omega arith) (search rules)))
