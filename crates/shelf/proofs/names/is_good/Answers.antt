use Rattle.std.proofs.Common.{rules, ◌≡◌, ◌≤◌, take, tests}
use Rattle.std.specs.List.{list_all}
use Rattle.std.proofs.lemmas.Iterator.{YieldsList-from_slice}
use Rattle.std.proofs.lemmas.Iterator.Search.{all_from_yields_List}
use Rattle.shelf.specs.Names.{name_byte}
use Rattle.shelf.proofs.names.is_good.Goals as goal

pub returns-then-contains : goal.returns-then-contains
returns-then-contains c =
    let name = c.args.name.now in
    let all : c.all.result ≡ list_all name_byte (take name.len name.bytes) =
    all_from_yields_List name_byte _ _ c.all.result c.all.ensures.ran (YieldsList-from_slice (take name.len name.bytes) cc) (λ x b q k. search (rules, tests))
    in
    let few : name.len ≤ 16 = search rules in
    let some : 1 ≤ name.len = search rules in
    search rules
