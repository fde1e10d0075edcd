-- Members, items and paths, where a value is put.
use Rattle.std.proofs.Common.{◌≡◌, ℕ, zero, suc, ◌<◌, ◌≤◌, ◌==◌, List, [], ◌∷◌, length, Option, Some, None, refl, ap, ◌∙◌, sym, arith, String, Global, Less, Equal, Greater, Ordering, string_bytes, is_eq, inl, inr, set, Bool, true, false, cond, nat_lt, rules, option_map, MutBor, BTreeMap}
use Rattle.std.specs.BTreeMap.{get_by, insert_entry, is_at}
use Rattle.std.specs.List.{position_or_len}
use Rattle.std.specs.Map.{set_value}
use Rattle.std.specs.Option.{option_copied_mut}
use Rattle.std.specs.Ordering.{match_ordering}
use Rattle.std.specs.String.{string_cmp}
use Rattle.std.proofs.lemmas.Bool.{cases_Bool}
use Rattle.std.proofs.lemmas.List.Sums.{fails_before_first}
use Rattle.std.proofs.lemmas.List.Splits.{length-slice_split, slice_split_first, slice_split_none}
use Rattle.toml.specs.Data.{Data, get_member}
use Rattle.toml.specs.View.{view, items_view, members_view}
use Rattle.toml.proofs.Views.{Entry, at_text, view-lookup}
use Rattle.toml.specs.declared.value.Value.{Value}
use Rattle.nvme_points.specs.Documents.{cut, insert_member, names_of, set_member, set_item, put_at, put_last, put_through}

match_members : (o : Ordering) (a b c : List Entry) → members_view (match_ordering o a b c) ≡ match_ordering o (members_view a) (members_view b) (members_view c)
match_members Less a b c = refl
match_members Equal a b c = refl
match_members Greater a b c = refl

-- what an insert into the map of a table leaves
pub members_view-insert : (es : List Entry) (k : String Global) (v : Value) → members_view (insert_entry string_cmp es k v) ≡ insert_member (string_bytes k) (view v) (members_view es)
members_view-insert [] k v = refl
members_view-insert (e ∷ es) k v = match_members (string_cmp k e.0) _ _ _ ∙ rw (members_view-insert es k v)

-- and writing through it
pub members_view-set : (k : List ℕ) (es : List Entry) (w : Value) → members_view (set_value (is_at (at_text k)) es w) ≡ set_member k (view w) (members_view es)
members_view-set k [] w = refl
members_view-set k (e ∷ es) w =
    elim (cases_Bool (is_eq (at_text k e.0))) [
      | inl same ↦ rw same
      | inr other ↦ rw (other, members_view-set k es w)
    ]

-- and writing to an item
pub items_view-set : (vs : List Value) (i : ℕ) (w : Value) → items_view (set vs i w) ≡ set_item i (view w) (items_view vs)
items_view-set [] i w = refl
items_view-set (v ∷ vs) zero w = refl
items_view-set (v ∷ vs) (suc i) w = rw (items_view-set vs i w)

-- a path goes through a name that others follow
pub put_more : (name : List ℕ) (names : List (List ℕ)) (new old : Data) → 0 < length names → put_at (name ∷ names) new old ≡ put_through name (put_at names new) old
unfolding put_at
put_more name [] new old some = absurd (omega arith)
put_more name (next ∷ names) new old some = refl

no_name_before : {X : Type 0} (b : Bool) (x : X) → cond b (Some x) None ≡ None → b ≡ false
no_name_before true x e = cc
no_name_before false x e = refl

first_of : Option (List ℕ × List ℕ) → List ℕ
first_of None = []
first_of (Some p) = p.0

second_of : Option (List ℕ × List ℕ) → List ℕ
second_of None = []
second_of (Some p) = p.1

parts_of : (b : Bool) (x y name rest : List ℕ) → cond {A = Option (List ℕ × List ℕ)} b (Some (x, y)) None ≡ Some (name, rest) → (b ≡ true) × (x ≡ name) × (y ≡ rest)
unfolding first_of second_of
parts_of true x y name rest e = (refl, ap first_of e, ap second_of e)
parts_of false x y name rest e = cc

-- where no point parts a path, it is one name
pub names_of-last : (path : List ℕ) → cut 46 path ≡ None → names_of path ≡ path ∷ []
names_of-last path none =
    let all = no_name_before (nat_lt (position_or_len (λ b. b == 46) path) (length path)) _ none in
    slice_split_none (λ b. b == 46) path (λ k x l. let past : length path ≤ position_or_len (λ b. b == 46) path = search (rules, arith) in fails_before_first (λ b. b == 46) path k x (omega (arith, l, past)))

-- and else the first one stands before the first point
pub names_of-first : (path name rest : List ℕ) → cut 46 path ≡ Some (name, rest) → names_of path ≡ name ∷ names_of rest
names_of-first path name rest parts =
    let (here, named, left) = parts_of (nat_lt (position_or_len (λ b. b == 46) path) (length path)) _ _ name rest parts in
    let at : position_or_len (λ b. b == 46) path < length path = search (rules, arith) in
    rw (← named, ← left) (slice_split_first (λ b. b == 46) path 0 at)

-- so a path of one name ends there
pub put_at_last : (path : List ℕ) (new old : Data) → cut 46 path ≡ None → put_at (names_of path) new old ≡ put_last path new old
unfolding put_at
put_at_last path new old none = rw (names_of-last path none) refl

-- and another goes through its first one
pub put_at_first : (path name rest : List ℕ) (new old : Data) → cut 46 path ≡ Some (name, rest) → put_at (names_of path) new old ≡ put_through name (put_at (names_of rest) new) old
put_at_first path name rest new old parts =
    rw (names_of-first path name rest parts) (put_more name (names_of rest) new old (omega (arith, length-slice_split (λ b. b == 46) rest)))

-- what `get_mut` finds in the map of a table
pub member_found : (k : List ℕ) (m : BTreeMap (String Global) Value) (r : Option (MutBor Value)) (slot : MutBor Value) → r ≡ Some slot → option_copied_mut r ≡ get_by (at_text k) m
    → get_member k (members_view m.entries) ≡ Some (view slot.now)
member_found k m r slot is value = sym (view-lookup k m.entries) ∙ ap (option_map view) (sym (rw is at value))

pub member_missing : (k : List ℕ) (m : BTreeMap (String Global) Value) (r : Option (MutBor Value)) → r ≡ None → option_copied_mut r ≡ get_by (at_text k) m → get_member k (members_view m.entries) ≡ None
member_missing k m r is value = sym (view-lookup k m.entries) ∙ ap (option_map view) (sym (rw is at value))
