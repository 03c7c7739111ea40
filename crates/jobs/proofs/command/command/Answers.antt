use Rattle.std.proofs.Common.{rules, ◌≡◌, ◌+◌, ◌≤◌, length, take, drop, ap, ◌∙◌, subst, le_refl, arith, length-drop}
use Rattle.std.proofs.lemmas.List.{drop-drop}
use Rattle.std.proofs.lemmas.Slice.{between_to_end}
use Rattle.jobs.specs.Commands.{tape_length, request_in}
use Rattle.jobs.proofs.command.command.Goals as goal

pub returns-in-67 : goal.returns-in-67
returns-in-67 c =
    let request : c.from_le_bytes-request.result ≡ request_in c.args.bytes.now = omega (arith, c.from_le_bytes-request.ensures) in
    (6, record { sized = search rules; whole = omega arith; says = (search rules, search rules, request) }, between_to_end c.args.bytes.now 6 _ (le_refl _))

pub returns-in-66 : goal.returns-in-66
returns-in-66 c = (4, search rules, between_to_end c.args.bytes.now 4 _ (le_refl _))

pub returns-in_ok-tape-in-65 : goal.returns-in_ok-tape-in-65
returns-in_ok-tape-in-65 c =
    let bytes = c.args.bytes.now in
    let size : c.from.result ≡ tape_length bytes = c.from.ensures ∙ omega (arith, c.from_le_bytes-size.ensures) in
    let rest = between_to_end bytes 3 _ (le_refl _) in
    let cut = c.in_ok-tape-in-65.ensures.cases in
    let fits : c.from.result ≤ length (drop 3 bytes) = subst (λ xs. c.from.result ≤ length xs) rest cut.0 in
    let long : 3 ≤ length bytes = grind arith in
    let whole : 3 + tape_length bytes ≤ length bytes = omega (arith, length-drop 3 bytes) in (
      3 + tape_length bytes,
      record { sized = search rules; whole = whole; says = (search rules, cut.1 ∙ ap (take c.from.result) rest ∙ ap (λ n. take n (drop 3 bytes)) size) },
      cut.2 ∙ ap (drop c.from.result) rest ∙ drop-drop c.from.result 3 bytes ∙ ap (λ n. drop (3 + n) bytes) size,
    )

pub returns-in_ok-name-in-64 : goal.returns-in_ok-name-in-64
returns-in_ok-name-in-64 c =
    let bytes = c.args.bytes.now in
    let rest = between_to_end bytes 2 _ (le_refl _) in
    let cut = c.in_ok-name-in-64.ensures.cases in
    (18, record { sized = search rules; whole = omega arith; says = (search rules, search rules, cut.0 ∙ ap (take 16) rest) }, cut.1 ∙ ap (drop 16) rest ∙ drop-drop 16 2 bytes)
