-- The fields of a line that aren't passed over.
use Rattle.std.proofs.Common.{◌≡◌, suc, ◌+◌, ◌≤◌, ℕ, Bool, true, false, List, [], ◌∷◌, length, Some, String, Global, sym, ap, subst, arith}
use Rattle.std.specs.Prelude.{string_bytes, if◌then◌else◌}
use Rattle.serde_json.specs.Data.{Data, null, boolean, number, string, array, object, Members}
use Rattle.serde_json.specs.Find.{as_object}
use Rattle.serde_json.specs.View.{members_view}
use Rattle.serde_json.specs.declared.value.Value.{Value}
use Rattle.nvme_audit_text.specs.Readings.{is_extra, member_count, field_count}

few_or : (b : Bool) (n k : ℕ) → n ≤ k → (if b then n else suc n) ≤ suc k
few_or true n k le = omega arith
few_or false n k le = omega arith

-- the members that aren't ignored
pub few_members : (ms : List (String Global × Value)) → member_count (members_view ms) ≤ length ms
few_members [] = omega arith
few_members ((name, v) ∷ ms) = few_or (is_extra (string_bytes name)) (member_count (members_view ms)) (length ms) (few_members ms)

-- the first of some members is ignored
pub record IsIgnoredFirst (members rest : List (String Global × Value)) : Type 0 where
  pub same : member_count (members_view members) ≡ member_count (members_view rest)
  pub one_less : length members ≡ length rest + 1
  pub few : member_count (members_view rest) ≤ length rest

ignored_here : (e : String Global × Value) (rest : List (String Global × Value)) → is_extra (string_bytes e.0) ≡ true → IsIgnoredFirst (e ∷ rest) rest
ignored_here (name, v) rest x = record {
  same = ap (λ (b : Bool). if b then member_count (members_view rest) else suc (member_count (members_view rest))) x;
  one_less = omega arith;
  few = few_members rest;
}

pub ignored_first : (members rest : List (String Global × Value)) (e : String Global × Value) → members ≡ e ∷ rest → is_extra (string_bytes e.0) ≡ true → IsIgnoredFirst members rest
ignored_first members rest e is x = subst (λ (ms : List (String Global × Value)). IsIgnoredFirst ms rest) (sym is) (ignored_here e rest x)

pub fields_of : (d : Data) (ms : Members) → Some ms ≡ as_object d → member_count ms ≡ field_count d
fields_of null ms h = absurd (cc)
fields_of (boolean b) ms h = absurd (cc)
fields_of (number n) ms h = absurd (cc)
fields_of (string s) ms h = absurd (cc)
fields_of (array ds) ms h = absurd (cc)
fields_of (object ns) ms h = let e : ms ≡ ns = cc in ap member_count e
