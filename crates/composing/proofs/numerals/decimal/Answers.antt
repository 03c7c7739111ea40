use Rattle.std.proofs.Common.{rules, ◌≡◌, sym, ◌∙◌, tests, arith}
use Rattle.std.specs.Char.{is_ascii_digit}
use Rattle.std.specs.Str.{IsUtf8}
use Rattle.std.specs.Str.Parse.{ParsesUnsigned}
use Rattle.std.proofs.lemmas.Fmt.{IsAscii-from_digits}
use Rattle.std.proofs.lemmas.Grind.{common_steps}
use Rattle.std.proofs.lemmas.Iterator.{YieldsList-from_slice}
use Rattle.std.proofs.lemmas.Iterator.Search.{all_from_yields_List}
use Rattle.std.proofs.lemmas.Str.{IsUtf8-from_ascii}
use Rattle.std.proofs.lemmas.Str.Parse.{parse_digits}
use Rattle.composing.proofs.Digits.{digits, read}
use Rattle.composing.proofs.numerals.decimal.Goals as goal

pub returns-in_err-ok : goal.returns-in_err-ok
returns-in_err-ok c =
    let t = sym (all_from_yields_List is_ascii_digit _ _ c.all.result c.all.ensures.ran (YieldsList-from_slice c.args.word.now cc) (λ x b q k. search (rules, tests))) ∙ c.if-not-all.false in
    let utf8 : IsUtf8 c.args.word.now = IsUtf8-from_ascii _ (IsAscii-from_digits _ (digits.to _ t)) in
    grind (arith, common_steps, c.from_utf8.ensures.cases)

pub returns : goal.returns
returns c =
    let t = sym (all_from_yields_List is_ascii_digit _ _ c.all.result c.all.ensures.ran (YieldsList-from_slice c.args.word.now cc) (λ x b q k. search (rules, tests))) ∙ c.if-not-all.false in
    let text : c.in_ok-ok.field-0.now ≡ c.args.word.now = grind (arith, common_steps, c.from_utf8.ensures.cases) in
    let parsed : ParsesUnsigned 32 10 c.args.word.now c.parse.result = rw text at c.parse.ensures.value.0 in
    c.ok-2.ensures.value ∙ read c.args.word.now c.parse.result t (parse_digits digits 32 c.args.word.now c.parse.result parsed t)
