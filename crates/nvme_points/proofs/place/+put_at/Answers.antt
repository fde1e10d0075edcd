use Rattle.std.proofs.Common.{rules, option_map, refl, ap, ◌∙◌, arith, string_bytes, sym}
use Rattle.std.specs.Vec.{with_item}
use Rattle.toml.specs.Data.{boolean, datetime, float, integer, string}
use Rattle.toml.specs.View.{view}
use Rattle.toml.proofs.Views.{get_item_past, get_item_within, view-Array, view-Boolean, view-Datetime, view-Float, view-Integer, view-String, view-Table}
use Rattle.nvme_points.proofs.Puts.{items_view-set, member_found, member_missing, members_view-set, put_at_first, put_at_last}
use Rattle.nvme_points.proofs.place.+put_at.Goals as goal

pub put_at-returns-in_default : goal.put_at-returns-in_default
put_at-returns-in_default t c = rw (put_at_last c.args.path.now (view c.args.new) (view c.args.old) (sym c.in_default.ensures)) c.put_last.ensures

pub put_at-returns-in-Table : goal.put_at-returns-in-Table
put_at-returns-in-Table t c =
    rw (put_at_first c.args.path.now c.in-Some.name.now c.in-Some.rest.now (view c.args.new) (view c.args.old) (sym c.in-Some.ensures), c.in-Table.is, view-Table c.in-Table.inner) c.put_in_table.ensures

pub put_at-returns-in-Array : goal.put_at-returns-in-Array
put_at-returns-in-Array t c =
    rw (put_at_first c.args.path.now c.in-Some.name.now c.in-Some.rest.now (view c.args.new) (view c.args.old) (sym c.in-Some.ensures), c.in-Array.is, view-Array c.in-Array.items) c.put_in_array.ensures

pub put_at-returns-in-String : goal.put_at-returns-in-String
put_at-returns-in-String t c = rw (c.in-String.is, view-String c.in-String.field-0) (sym (put_at_first c.args.path.now c.in-Some.name.now c.in-Some.rest.now (view c.args.new) (string (string_bytes c.in-String.field-0)) (sym c.in-Some.ensures)))

pub put_at-returns-in-Integer : goal.put_at-returns-in-Integer
put_at-returns-in-Integer t c = rw (c.in-Integer.is, view-Integer c.in-Integer.field-0) (sym (put_at_first c.args.path.now c.in-Some.name.now c.in-Some.rest.now (view c.args.new) (integer c.in-Integer.field-0) (sym c.in-Some.ensures)))

pub put_at-returns-in-Float : goal.put_at-returns-in-Float
put_at-returns-in-Float t c = rw (c.in-Float.is, view-Float c.in-Float.field-0) (sym (put_at_first c.args.path.now c.in-Some.name.now c.in-Some.rest.now (view c.args.new) (float c.in-Float.field-0) (sym c.in-Some.ensures)))

pub put_at-returns-in-Boolean : goal.put_at-returns-in-Boolean
put_at-returns-in-Boolean t c = rw (c.in-Boolean.is, view-Boolean c.in-Boolean.field-0) (sym (put_at_first c.args.path.now c.in-Some.name.now c.in-Some.rest.now (view c.args.new) (boolean c.in-Boolean.field-0) (sym c.in-Some.ensures)))

pub put_at-returns : goal.put_at-returns
put_at-returns t c = rw (c.in-Datetime.is, view-Datetime c.in-Datetime.field-0) (sym (put_at_first c.args.path.now c.in-Some.name.now c.in-Some.rest.now (view c.args.new) (datetime c.in-Datetime.field-0) (sym c.in-Some.ensures)))

pub put_in_array-returns-then-index-len : goal.put_in_array-returns-then-index-len
put_in_array-returns-then-index-len t c = rw (← c.in-Some.ensures, ← get_item_past c.args.items.items c.in-Some.index (search (rules, arith))) refl

pub put_in_array-returns-in_default-2 : goal.put_in_array-returns-in_default-2
put_in_array-returns-in_default-2 t c =
    let slot = c.index_mut-slot.result.now in
    let found = get_item_within c.args.items.items c.in-Some.index slot (search (rules, arith)) in
    let below = c.take-below.ensures ∙ c.index_mut-slot.ensures.value in
    rw (← c.in-Some.ensures, ← found) (ap (option_map _) (rw (c.in_default-2.is, below) at c.in_ok-made.ensures))

pub put_in_array-returns : goal.put_in_array-returns
put_in_array-returns t c =
    let slot = c.index_mut-slot.result.now in
    let i = c.in-Some.index in
    let w = c.in-Some-2.made in
    let found = get_item_within c.args.items.items i slot (search (rules, arith)) in
    let below = c.take-below.ensures ∙ c.index_mut-slot.ensures.value in
    let made = rw (c.in-Some-2.is, below) at c.in_ok-made.ensures in
    rw (← c.in-Some.ensures, ← found, ← made, view-Array (with_item c.args.items i w), items_view-set c.args.items.items i w) refl

pub put_in_table-returns-in_default : goal.put_in_table-returns-in_default
put_in_table-returns-in_default t c = rw (member_missing c.args.name.now c.args.inner c.get_mut.result c.in_default.is c.get_mut.ensures.value) refl

pub put_in_table-returns-in_default-2 : goal.put_in_table-returns-in_default-2
put_in_table-returns-in_default-2 t c =
    let found = member_found c.args.name.now c.args.inner c.get_mut.result c.in-Some.slot c.in-Some.is c.get_mut.ensures.value in
    rw found (ap (option_map _) (rw (c.in_default-2.is, c.take-below.ensures) at c.in_ok-made.ensures))

pub put_in_table-returns : goal.put_in_table-returns
put_in_table-returns t c =
    let k = c.args.name.now in
    let w = c.in-Some-2.made in
    let found = member_found k c.args.inner c.get_mut.result c.in-Some.slot c.in-Some.is c.get_mut.ensures.value in
    let made = rw (c.in-Some-2.is, c.take-below.ensures) at c.in_ok-made.ensures in
    rw (found, ← made, view-Table (c.get_mut.follows.lender w), (c.get_mut.follows.holds w).0, members_view-set k c.args.inner.entries w) refl
