use Rattle.std.proofs.Common.{rules, ◌≡◌, arith, refl, codes}
use Rattle.std.proofs.lemmas.Slice.Eq.{text_from_reads}
use Rattle.tree_lines.specs.Words.{BothBoundsFit, BothFit, FitsWord, one_number, two_bounds, two_numbers}
use Rattle.tree_lines.specs.declared.requests.Request.TheVariants.{Insert, Upsert, Remove, RemoveIf, RemoveRange, Peek, Contains, Range, Locate}
use Rattle.tree_lines.proofs.Names.{reads_made, unread_contains, unread_insert, unread_locate, unread_peek, unread_range, unread_remove, unread_remove_if, unread_remove_range, unread_upsert}
use Rattle.tree_lines.proofs.requests.request_named.Goals as goal

-- a name that is compared whole
pub returns-then-eq : goal.returns-then-eq
returns-then-eq c =
    let name : c.args.name.now ≡ codes "remove_range" = search rules in
    rw name (reads_made c.args.arguments.now BothBoundsFit two_bounds (λ bounds. RemoveRange bounds.0 bounds.1) _ (λ x fits. ((fits, refl), refl)) (unread_remove_range _) _ _ (search (rules, c.map.ensures.cases)) c.two_bounds_of.ensures)

pub returns-in-insert : goal.returns-in-insert
returns-in-insert c =
    let name : c.args.name.now ≡ codes "insert" = text_from_reads _ _ (omega (arith, c.in-insert.len_at_least, c.in-insert.len_below)) (search rules) in
    rw name (reads_made c.args.arguments.now BothFit two_numbers (λ pair. Insert pair.0 pair.1) _ (λ x fits. ((fits, refl), refl)) (unread_insert _) _ _ (search (rules, c.map-in-insert.ensures.cases)) c.two_numbers_of.ensures)

pub returns-in-upsert : goal.returns-in-upsert
returns-in-upsert c =
    let name : c.args.name.now ≡ codes "upsert" = text_from_reads _ _ (omega (arith, c.in-upsert.len_at_least, c.in-upsert.len_below)) (search rules) in
    rw name (reads_made c.args.arguments.now BothFit two_numbers (λ pair. Upsert pair.0 pair.1) _ (λ x fits. ((fits, refl), refl)) (unread_upsert _) _ _ (search (rules, c.map-in-upsert.ensures.cases)) c.two_numbers_of-in-upsert.ensures)

pub returns-in-remove : goal.returns-in-remove
returns-in-remove c =
    let name : c.args.name.now ≡ codes "remove" = text_from_reads _ _ (omega (arith, c.in-remove.len_at_least, c.in-remove.len_below)) (search rules) in
    rw name (reads_made c.args.arguments.now FitsWord one_number (λ key. Remove key) _ (λ x fits. ((fits, refl), refl)) (unread_remove _) _ _ (search (rules, c.map-in-remove.ensures.cases)) c.one_number_of-in-remove.ensures)

pub returns-in-114 : goal.returns-in-114
returns-in-114 c =
    let name : c.args.name.now ≡ codes "remove_if" = text_from_reads _ _ (omega (arith, c.in-114.len_at_least, c.in-114.len_below)) (search rules) in
    rw name (reads_made c.args.arguments.now BothFit two_numbers (λ pair. RemoveIf pair.0 pair.1) _ (λ x fits. ((fits, refl), refl)) (unread_remove_if _) _ _ (search (rules, c.map-in-114.ensures.cases)) c.two_numbers_of-in-114.ensures)

pub returns-in-peek : goal.returns-in-peek
returns-in-peek c =
    let name : c.args.name.now ≡ codes "peek" = text_from_reads _ _ (omega (arith, c.in-peek.len_at_least, c.in-peek.len_below)) (search rules) in
    rw name (reads_made c.args.arguments.now FitsWord one_number (λ key. Peek key) _ (λ x fits. ((fits, refl), refl)) (unread_peek _) _ _ (search (rules, c.map-in-peek.ensures.cases)) c.one_number_of.ensures)

pub returns-in-contains : goal.returns-in-contains
returns-in-contains c =
    let name : c.args.name.now ≡ codes "contains" = text_from_reads _ _ (omega (arith, c.in-contains.len_at_least, c.in-contains.len_below)) (search rules) in
    rw name (reads_made c.args.arguments.now FitsWord one_number (λ key. Contains key) _ (λ x fits. ((fits, refl), refl)) (unread_contains _) _ _ (search (rules, c.map-in-contains.ensures.cases)) c.one_number_of-in-contains.ensures)

pub returns-in-range : goal.returns-in-range
returns-in-range c =
    let name : c.args.name.now ≡ codes "range" = text_from_reads _ _ (omega (arith, c.in-range.len_at_least, c.in-range.len_below)) (search rules) in
    rw name (reads_made c.args.arguments.now BothBoundsFit two_bounds (λ bounds. Range bounds.0 bounds.1) _ (λ x fits. ((fits, refl), refl)) (unread_range _) _ _ (search (rules, c.map-in-range.ensures.cases)) c.two_bounds_of-in-range.ensures)

pub returns-in-locate : goal.returns-in-locate
returns-in-locate c =
    let name : c.args.name.now ≡ codes "locate" = text_from_reads _ _ (omega (arith, c.in-locate.len_at_least, c.in-locate.len_below)) (search rules) in
    rw name (reads_made c.args.arguments.now FitsWord one_number (λ key. Locate key) _ (λ x fits. ((fits, refl), refl)) (unread_locate _) _ _ (search (rules, c.map-in-locate.ensures.cases)) c.one_number_of-in-locate.ensures)
