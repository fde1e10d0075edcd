-- A pick of the admin queue, with a limit or without, takes one command.
use Rattle.std.proofs.Common.{◌≡◌, ℕ, ◌≤◌, ◌==◌, ◌&&◌, Bool, false, nat_lt, List, slice_index_or, Option, Some, sym, ap, subst, ◌∙◌, arith}
use Rattle.std.specs.Prelude.{All, if◌then◌else◌}
use Rattle.std.proofs.lemmas.Bool.{cond-true, eq-eqb, and_parts}
use Rattle.std.proofs.lemmas.List.Elements.{All-filter, filter_passes}
use Rattle.nvme_arbiter.specs.Settings.{ArbitrationFields, burst_of, IsLevel}
use Rattle.nvme_arbiter.specs.Observation.{is_class, IsSeen, IsObservation, ready_of}
use Rattle.nvme_arbiter.specs.History.{History, settings_after, last_served_of, used_in_round}
use Rattle.nvme_arbiter.specs.Rules.{within_burst}
use Rattle.nvme_arbiter.specs.Lawful.{lawful_pick, IsLimitedPick}
use Rattle.nvme_arbiter.specs.declared.pick.Pick.{Pick}
use Rattle.nvme_arbiter.specs.declared.pick.Seen.{Seen}
use Rattle.nvme_arbiter.specs.declared.settings.Class.{Class}
use Rattle.nvme_arbiter.specs.declared.settings.Class.TheVariants.{Admin, Urgent}
use Rattle.nvme_arbiter.specs.declared.settings.Mechanism.{Mechanism}
use Rattle.nvme_arbiter.specs.declared.settings.Mechanism.TheVariants.{RoundRobin, Weighted}
use Rattle.nvme_arbiter.proofs.Choices.{next_is_one, same_class, IsFrom, Choice, of_admin, of_urgent, of_level, limited_choice, limited_from}
use Rattle.nvme_arbiter.proofs.PickLaws.{whole_is_limited, same_pick}

-- a ready queue of a class, as it was seen
record IsReadyOf (class : Class) (s : Seen) : Type 0 where
  pub seen : IsSeen s
  pub class_is : class ≡ s.class

-- each ready queue of a class is one that was seen, in that class
ready_ones : (class : Class) (seen : List Seen) → All IsSeen seen → All (IsReadyOf class) (ready_of class seen)
ready_ones class seen a = λ k d h.
    let s : Seen = slice_index_or (ready_of class seen) k d in
    let parts = and_parts (is_class class s.class) (nat_lt 0 s.count) (filter_passes (λ (t : Seen). is_class class t.class && nat_lt 0 t.count) seen k d h) in
    record {
      seen = All-filter (λ (t : Seen). is_class class t.class && nat_lt 0 t.count) IsSeen seen a k d h;
      class_is = same_class class s.class parts.0;
    }

-- a pick of a class other than that of the admin queue is of another queue
not_of_admin : (last : Class → Option ℕ) (seen : List Seen) (class : Class) (fresh : Bool) (number : Seen → ℕ) (p : Pick)
    → IsObservation seen → IsFrom last seen class fresh number p → p.qid ≡ 0 → class ≡ Admin
not_of_admin last seen class fresh number p o f zero_is =
    let is = next_is_one (IsReadyOf class) (last class) (ready_of class seen) f.queue (ready_ones class seen o.each) f.next_is in
    is.class_is ∙ is.seen.admin.1 (sym f.taken_is.qid ∙ zero_is)

-- one command is taken of the admin queue, by the weighted mechanism
one_by_choice : (s : ArbitrationFields) (last : Class → Option ℕ) (used : Class → ℕ) (seen : List Seen) (p : Pick)
    → IsObservation seen → Choice s last used seen p → p.qid ≡ 0 → p.n ≡ 1
one_by_choice s last used seen p o (of_admin f) z = let few : p.n ≤ 1 = f.taken_is.few in let some : 1 ≤ p.n = f.taken_is.some (omega arith) in omega arith
one_by_choice s last used seen p o (of_urgent f) z =
    let e : Urgent ≡ Admin = not_of_admin last seen Urgent false _ p o f z in
    absurd (cc)
one_by_choice s last used seen p o (of_level fresh level f) z = absurd (subst IsLevel (not_of_admin last seen level fresh _ p o f.from z) f.level_is)

-- one command is taken of the admin queue
pub one_of_admin : (m : Mechanism) (first : ArbitrationFields) (past : History) (seen : List Seen) (p : Pick)
    → IsObservation seen → IsLimitedPick m first past seen p → p.qid ≡ 0 → p.n ≡ 1
one_of_admin RoundRobin first past seen p o h z =
    let s : ArbitrationFields = settings_after first past in
    let t = limited_from first past seen p h in
    let one : (if t.0.qid == 0 then 1 else within_burst (burst_of s) t.0.count) ≡ 1 = cond-true (t.0.qid == 0) 1 (within_burst (burst_of s) t.0.count) (eq-eqb t.0.qid 0 (sym t.2.qid ∙ z)) in
    let few : p.n ≤ (if t.0.qid == 0 then 1 else within_burst (burst_of s) t.0.count) = t.2.few in
    let some : 1 ≤ p.n = h.some in
    omega (arith, one, few, some)
one_of_admin Weighted first past seen p o h z =
    one_by_choice (settings_after first past) (λ c. last_served_of c past) (λ l. used_in_round l past) seen p o (limited_choice first past seen p h) z

-- so a limit leaves a pick of the admin queue whole
pub admin_is_whole : (m : Mechanism) (first : ArbitrationFields) (past : History) (seen : List Seen) (p : Pick)
    → IsObservation seen → IsLimitedPick m first past seen p → p.qid ≡ 0 → Some p ≡ lawful_pick m first past seen
admin_is_whole m first past seen p o h z =
    let all : h.whole.n ≡ 1 = one_of_admin m first past seen h.whole o (whole_is_limited m first past seen h.whole o h.lawful) (sym h.is_cut.qid ∙ z) in
    sym (h.lawful ∙ ap (λ (x : Pick). Some x) (same_pick h.whole p (sym h.is_cut.qid) (all ∙ sym (one_of_admin m first past seen p o h z)) (sym h.is_cut.fresh)))
