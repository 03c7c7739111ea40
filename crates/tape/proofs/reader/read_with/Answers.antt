use Rattle.std.proofs.Common.{ℕ, [], List, length, Ok, Result, sym, refl, ap, ◌∙◌}
use Rattle.std.proofs.lemmas.Bool.{le-ltb}
use Rattle.std.proofs.lemmas.Result.{err_from_is_err_and}
use Rattle.effects.specs.Codes.{Codes}
use Rattle.tape.specs.Tape.{no_tests, values, result, tape_from}
use Rattle.tape.specs.Readers.{at_model}
use Rattle.tape.specs.Entries.{Reads, entries_on}
use Rattle.tape.specs.declared.at_request.AtRequest.{AtRequest}
use Rattle.tape.specs.declared.refusal.RefusedAt.{RefusedAt}
use Rattle.tape.specs.declared.stack.Stack.{Stack}
use Rattle.tape.proofs.Stepping.{meant_at}
use Rattle.tape.proofs.Reading.{Reading, past_tests, holds_empty, unlimited, reading, reading_ok, reading_err}
use Rattle.tape.proofs.reader.read_with.Goals as goal

-- what a reader at one request reads is a tape with no test of the reader's own
read_so : (K : Codes) (n : ℕ) (tape : List ℕ) (s t : AtRequest) (st : Stack ℕ) (r : Result (Unit {0}) RefusedAt) → Reads at_model K n (length tape) [] 0 tape s t st r → Reading at_model (λ _ _. Unit {0}) K t st (tape_from (length tape) K n no_tests [] 0 tape) r
read_so K n tape s t st r x = reading at_model (λ _ _. Unit {0}) no_tests K n (λ row bs s a. unlimited K n row bs) (λ row bs s u su d a o m h. tt) (length tape) [] 0 tape s t st r tt x

pub returns-in_err-read_all : goal.returns-in_err-read_all
returns-in_err-read_all c = λ K C T.
    let tape = c.args.tape.now in
    let p = err_from_is_err_and c.from_residual.result c.from_residual.ensures.1 in
    let x = read_so K c.args.facts tape _ _ _ _ (c.in_err-read_all.ensures.reads K [] C T (holds_empty at_model K _ _ c.empty-stack.ensures.bare c.empty-stack.ensures.unended)) in
    rw (p.1, p.2) (sym (past_tests K c.args.facts tape c.args.request _ (le-ltb 32 c.args.facts c.if-facts-gt32.false) (sym c.if-beyond.ensures) (le-ltb 65535 (length tape) c.if-tape-gt-LONGEST_TAPE.false) (reading_err at_model (λ _ _. Unit {0}) K c.read_all.new.on c.read_all.new.stack (tape_from (length tape) K c.args.facts no_tests [] 0 tape) _ x)))

pub returns : goal.returns
returns c = λ K C T.
    let tape = c.args.tape.now in
    let on = c.read_all.new.on in
    let st = c.read_all.new.stack in
    let x = read_so K c.args.facts tape _ _ _ _ (c.in_ok-read_all.ensures.reads K [] C T (holds_empty at_model K _ _ c.empty-stack.ensures.bare c.empty-stack.ensures.unended)) in
    let w = reading_ok at_model (λ _ _. Unit {0}) K on st (tape_from (length tape) K c.args.facts no_tests [] 0 tape) _ x in
    let m = meant_at at_model on 0 refl (entries_on st) (values K w.0) 0 w.1.1.meant in
    ap (λ (n : ℕ). Ok n) (c.top.ensures ∙ m ∙ ap (λ (q : ℕ). result K w.0 q) (sym c.in_ok-read_all.ensures.kept))
    ∙ sym (past_tests K c.args.facts tape c.args.request _ (le-ltb 32 c.args.facts c.if-facts-gt32.false) (sym c.if-beyond.ensures) (le-ltb 65535 (length tape) c.if-tape-gt-LONGEST_TAPE.false) w.1.0)
