-- A state that a head tells is that of some history: each queue that was served last is served alone, and then the commands used are picked one by one.
use Rattle.std.proofs.Common.{◌≡◌, ℕ, suc, zero, ◌+◌, ◌-◌, ◌<◌, ◌≤◌, ◌^◌, ◌==◌, ◌&&◌, ◌||◌, not, min, Bool, true, false, List, [], ◌∷◌, inl, inr, refl, sym, ap, subst, ◌∙◌, arith}
use Rattle.std.specs.Prelude.{Option, Some, None, is_none, nat_le, nat_lt, if◌then◌else◌}
use Rattle.std.specs.List.{list_any}
use Rattle.std.proofs.lemmas.Bool.{cases_Bool, eqb-true, eqb-false, eq-eqb, ne_eqb, leb-true, le-leb, lt-ltb, and_parts}
use Rattle.nvme_arbiter.specs.Limits.{highest_qid}
use Rattle.nvme_arbiter.specs.Settings.{ArbitrationFields, burst_of, weight_of, IsLevel}
use Rattle.nvme_arbiter.specs.Observation.{is_class, class_in, is_wanted, is_observation_from}
use Rattle.nvme_arbiter.specs.ByClass.{with_class, same_for_all}
use Rattle.nvme_arbiter.proofs.Observations.{observation_by_test}
use Rattle.nvme_arbiter.proofs.Stands.{lawful, stands_first, stands_picked}
use Rattle.nvme_arbiter.specs.Next.{next}
use Rattle.nvme_arbiter.specs.Rules.{within_burst, weighted_pick, round_robin_pick}
use Rattle.nvme_arbiter.specs.History.{Picked, Changed, History, settings_after}
use Rattle.nvme_arbiter.specs.Lawful.{IsLawfulRun}
use Rattle.nvme_arbiter.specs.Specified.{has_waited, is_pick_in, ready_in, round_used, starts_round}
use Rattle.nvme_arbiter.specs.Standing.{StandsAt, last_of, used_of, used_with, last_with, kept_after, first_kept, nothing_used}
use Rattle.nvme_arbiter.specs.declared.settings.Class.{Class}
use Rattle.nvme_arbiter.specs.declared.settings.Class.TheVariants.{Admin, Urgent, High, Medium, Low}
use Rattle.nvme_arbiter.specs.declared.settings.Mechanism.{Mechanism}
use Rattle.nvme_arbiter.specs.declared.settings.Mechanism.TheVariants.{RoundRobin, Weighted}
use Rattle.nvme_arbiter.specs.declared.kept.Kept.{Kept}
use Rattle.nvme_arbiter.specs.declared.kept.Last.{Last}
use Rattle.nvme_arbiter.specs.declared.kept.Used.{Used}
use Rattle.nvme_arbiter.specs.declared.pick.Seen.{Seen}
use Rattle.nvme_arbiter.specs.declared.pick.Pick.{Pick}
use Rattle.nvme_judge.specs.Standing.{UsedIs, IsQuiet}
use Rattle.nvme_judge.specs.Starts.{can_serve, can_be_last, last_fits, can_use, used_fits, StartsHavePriors}

-- what is built here
record IsBuilt (kept : Kept) (prior : History) : Type 0 where
  pub lawful : IsLawfulRun kept.mechanism kept.settings prior
  pub stands : StandsAt kept.mechanism kept.settings prior kept
  pub used : UsedIs kept.mechanism kept.settings prior kept.used
  pub quiet : IsQuiet prior

-- ---- a queue is served alone
one : Class → ℕ → Seen
one class qid = record { qid = qid; class = class; count = 1 }

pick_one : ℕ → Pick
pick_one qid = record { qid = qid; n = 1; fresh = false }

serve : Class → ℕ → History → History
serve class qid past = Picked (one class qid ∷ []) (pick_one qid) ∷ past

its_class : (class : Class) (qid : ℕ) → class_in (one class qid ∷ []) qid ≡ Some class
unfolding one
its_class class qid = rw (eq-eqb qid qid refl) refl

next_none : (last : Option ℕ) → next last [] ≡ None
next_none None = refl
next_none (Some l) = refl

next_one : (last : Option ℕ) (s : Seen) → next last (s ∷ []) ≡ Some s
next_one None s = refl
next_one (Some l) s =
    elim (cases_Bool (nat_lt l s.qid)) [
      | inl y ↦ rw y refl
      | inr n ↦ rw n refl
    ]

power_some : (n : ℕ) → 1 ≤ 2 ^ n
power_some zero = omega arith
power_some (suc n) = let h = power_some n in omega arith

burst_by : (code : ℕ) (none : Bool) → within_burst (if none then None else Some (2 ^ code)) 1 ≡ 1
burst_by code true = refl
burst_by code false = let some = power_some code in omega arith

burst_one : (settings : ArbitrationFields) → within_burst (burst_of settings) 1 ≡ 1
burst_one settings = burst_by settings.burst_code (settings.burst_code == 7)

none_or_none : (b : Bool) → ◌≡◌ {A = Option Pick} (if b then None else None) None
none_or_none true = refl
none_or_none false = refl

min_one : (n : ℕ) → 0 < n → min 1 n ≡ 1
min_one n h = omega arith

-- a level whose queue is served has credit
HasRoom : ArbitrationFields → Used → Class → Type 0
HasRoom s used class = IsLevel class → used_of used class < weight_of s class

picked_one : (s : ArbitrationFields) (last : Class → Option ℕ) (used : Used) (class : Class) (qid : ℕ) → HasRoom s used class → weighted_pick s last (used_of used) (one class qid ∷ []) ≡ Some (pick_one qid)
unfolding one pick_one HasRoom
picked_one s last used Admin qid h = rw (next_one (last Admin) (one Admin qid)) refl
picked_one s last used Urgent qid h = rw (next_none (last Admin), next_one (last Urgent) (one Urgent qid), burst_one s) refl
picked_one s last used High qid h =
    let room = h tt in
    let some : nat_lt 0 (weight_of s High - used_of used High) ≡ true = lt-ltb _ _ (omega arith) in
    rw (next_none (last Admin), next_none (last Urgent), next_one (last High) (one High qid), some, burst_one s, min_one (weight_of s High - used_of used High) (omega arith)) refl
picked_one s last used Medium qid h =
    let room = h tt in
    let some : nat_lt 0 (weight_of s Medium - used_of used Medium) ≡ true = lt-ltb _ _ (omega arith) in
    rw (next_none (last Admin), next_none (last Urgent), next_none (last High), none_or_none (nat_lt 0 (weight_of s High - used_of used High)), next_one (last Medium) (one Medium qid), some, burst_one s, min_one (weight_of s Medium - used_of used Medium) (omega arith)) refl
picked_one s last used Low qid h =
    let room = h tt in
    let some : nat_lt 0 (weight_of s Low - used_of used Low) ≡ true = lt-ltb _ _ (omega arith) in
    rw (next_none (last Admin), next_none (last Urgent), next_none (last High), none_or_none (nat_lt 0 (weight_of s High - used_of used High)), next_none (last Medium), none_or_none (nat_lt 0 (weight_of s Medium - used_of used Medium)), next_one (last Low) (one Low qid), some, burst_one s, min_one (weight_of s Low - used_of used Low) (omega arith)) refl

-- it is an observation
in_range : (qid : ℕ) → (nat_le 1 qid && nat_le qid 64) ≡ true → (1 ≤ qid) × (qid ≤ 64)
in_range qid h = let parts = and_parts (nat_le 1 qid) (nat_le qid 64) h in (leb-true 1 qid parts.0, leb-true qid 64 parts.1)

io_seen : (class : Class) (qid : ℕ) → is_class class Admin ≡ false → (nat_le 1 qid && nat_le qid 64) ≡ true → is_observation_from 0 (one class qid ∷ []) ≡ true
unfolding one
io_seen class qid io h =
    let r = in_range qid h in
    let some : (qid == 0) ≡ false = ne_eqb qid 0 (λ e. omega (arith, r.0, e)) in
    let low : nat_le 0 qid ≡ true = le-leb 0 qid (omega arith) in
    let high : nat_le qid 64 ≡ true = le-leb qid 64 r.1 in
    rw (low, high, io, some) refl

seen_one : (class : Class) (qid : ℕ) → can_serve class (Some qid) ≡ true → is_observation_from 0 (one class qid ∷ []) ≡ true
unfolding one
seen_one Admin qid h = let zero : qid ≡ 0 = eqb-true qid 0 h in rw zero refl
seen_one Urgent qid h = io_seen Urgent qid refl h
seen_one High qid h = io_seen High qid refl h
seen_one Medium qid h = io_seen Medium qid refl h
seen_one Low qid h = io_seen Low qid refl h

-- it starts no round, as the specification counts
goes_on : (s : ArbitrationFields) (used : Used) (class : Class) (qid : ℕ) → HasRoom s used class → starts_round s used (one class qid ∷ []) (pick_one qid) ≡ false
unfolding one pick_one HasRoom
goes_on s used Admin qid h = rw (its_class Admin qid) refl
goes_on s used Urgent qid h = rw (its_class Urgent qid) refl
goes_on s used High qid h = rw (lt-ltb _ _ (h tt), its_class High qid) refl
goes_on s used Medium qid h = rw (lt-ltb _ _ (h tt), its_class Medium qid) refl
goes_on s used Low qid h = rw (lt-ltb _ _ (h tt), its_class Low qid) refl

-- and no queue waits after it
none_waits : (mine ready same other before : Bool) → (ready ≡ true → same ≡ true) → before ≡ false → (if mine then ready && (not same && (other || before)) else before) ≡ false
none_waits true true true other before s b = refl
none_waits true true false other before s b = absurd (cc (s refl))
none_waits true false same other before s b = refl
none_waits false ready same other before s b = b

or_false : (b : Bool) → (b || false) ≡ true → b ≡ true
or_false true h = refl
or_false false h = absurd (cc)

only_if : (wanted : Bool) (s : Seen) (x : ℕ) → list_any (λ t. t.qid == x) (if wanted then s ∷ [] else []) ≡ true → (s.qid == x) ≡ true
only_if true s x h = or_false (s.qid == x) h
only_if false s x h = absurd (cc)

-- alone it is ready or is another
only_one : (class : Class) (qid : ℕ) (c : Option Class) (x : ℕ) → list_any (λ t. t.qid == x) (ready_in c (one class qid ∷ [])) ≡ true → (qid == x) ≡ true
unfolding one
only_one class qid c x h = only_if (is_wanted c (one class qid)) (one class qid) x h

quiet_more : (class : Class) (qid : ℕ) (past : History) → IsQuiet past → IsQuiet (serve class qid past)
unfolding serve one pick_one
quiet_more class qid past q c other x =
    none_waits (is_pick_in c (one class qid ∷ []) (pick_one qid)) (list_any (λ t. t.qid == x) (ready_in c (one class qid ∷ []))) (qid == x) (qid == other) (has_waited c other x past) (only_one class qid c x) (q c other x)

-- ---- what is used
nothing_in : (level : Class) → used_of nothing_used level ≡ 0
nothing_in Admin = refl
nothing_in Urgent = refl
nothing_in High = refl
nothing_in Medium = refl
nothing_in Low = refl

nothing_room : (s : ArbitrationFields) (class : Class) → HasRoom s nothing_used class
unfolding HasRoom
nothing_room s Admin l = absurd l
nothing_room s Urgent l = absurd l
nothing_room s High l = omega arith
nothing_room s Medium l = omega arith
nothing_room s Low l = omega arith

has_room : (s : ArbitrationFields) (used : Used) (class : Class) (n : ℕ) → used_of used class ≡ 0 → IsLevel class → suc n ≤ weight_of s class → HasRoom s (used_with used (Some class) n) class
unfolding HasRoom
has_room s used Admin n none l fits _ = absurd l
has_room s used Urgent n none l fits _ = absurd l
has_room s used High n none l fits _ = omega (arith, none, fits)
has_room s used Medium n none l fits _ = omega (arith, none, fits)
has_room s used Low n none l fits _ = omega (arith, none, fits)

used_none : (used : Used) (class : Class) → used_with used (Some class) 0 ≡ used
used_none used Admin = refl
used_none used Urgent = refl
used_none used High = ap (λ (n : ℕ). record used { high = n }) (omega arith)
used_none used Medium = ap (λ (n : ℕ). record used { medium = n }) (omega arith)
used_none used Low = ap (λ (n : ℕ). record used { low = n }) (omega arith)

used_more : (used : Used) (class : Class) (n : ℕ) → used_with (used_with used (Some class) n) (Some class) 1 ≡ used_with used (Some class) (suc n)
used_more used Admin n = refl
used_more used Urgent n = refl
used_more used High n = ap (λ (x : ℕ). record used { high = x }) (omega arith)
used_more used Medium n = ap (λ (x : ℕ). record used { medium = x }) (omega arith)
used_more used Low n = ap (λ (x : ℕ). record used { low = x }) (omega arith)

-- ---- histories of one mechanism and of settings that don't change
module _ (s : ArbitrationFields) where
  kept_with : Last → Used → Kept
  kept_with last used = record { mechanism = Weighted; settings = s; last = last; used = used }

  Reached : Last → Used → Type 0
  Reached last used = (prior : History) × IsBuilt (kept_with last used) prior

  first_reached : Reached (record { all = None; by_class = same_for_all None }) nothing_used
  unfolding kept_with Reached
  first_reached = ([], record { lawful = tt; stands = stands_first Weighted s; used = refl; quiet = λ class other qid. refl })

  served_reached : (class : Class) (qid : ℕ) (last : Last) (used : Used) → can_serve class (Some qid) ≡ true → HasRoom s used class → Reached last used → Reached (last_with last (Some class) qid) (used_with used (Some class) 1)
  unfolding kept_with Reached serve one pick_one
  served_reached class qid last used can room (prior, is) =
      let seen : List Seen = one class qid ∷ [] in
      let k = kept_with last used in
      let same : settings_after s prior ≡ s = sym is.stands.settings_are in (
        serve class qid prior,
        record {
          lawful = (observation_by_test seen (seen_one class qid can), sym (lawful Weighted s prior k seen is.stands) ∙ picked_one s (last_of last) used class qid room, is.lawful);
          stands = subst (λ c. StandsAt Weighted s (serve class qid prior) (kept_after Weighted k c (pick_one qid))) (its_class class qid) (stands_picked Weighted s prior k seen (pick_one qid) is.stands);
          used = let before : used ≡ round_used s prior = is.used in
              let on : starts_round (settings_after s prior) (round_used s prior) seen (pick_one qid) ≡ false =
              subst (λ u. starts_round (settings_after s prior) u seen (pick_one qid) ≡ false) before (subst (λ t. starts_round t used seen (pick_one qid) ≡ false) (sym same) (goes_on s used class qid room)) in
              rw (on, its_class class qid) (ap (λ u. used_with u (Some class) 1) before);
          quiet = quiet_more class qid prior is.quiet;
        },
      )

  changed_reached : (last : Last) (used : Used) → Reached last used → Reached last nothing_used
  unfolding kept_with Reached
  changed_reached last used (prior, is) = (
    Changed s ∷ prior,
    record {
      lawful = is.lawful;
      stands = record { mechanism_is = refl; settings_are = refl; recalls = (is.stands.recalls.0, λ level l. nothing_in level) };
      used = refl;
      quiet = is.quiet;
    },
  )

  -- the queue that was served last of a class, where there is one
  class_reached : (class : Class) (o : Option ℕ) (last : Last) → can_serve class o ≡ true → last ≡ record last { by_class = with_class last.by_class class None } → Reached last nothing_used
      → Reached (record last { by_class = with_class last.by_class class o }) nothing_used
  class_reached class None last can same r = subst (λ (l : Last). Reached l nothing_used) same r
  class_reached class (Some qid) last can same r = changed_reached _ _ (served_reached class qid last nothing_used can (nothing_room s class) r)

  -- the commands that are used of a level
  used_reached : (class : Class) (qid n : ℕ) (last : Last) (used : Used) → IsLevel class → can_serve class (Some qid) ≡ true → last_with last (Some class) qid ≡ last → used_of used class ≡ 0 → n ≤ weight_of s class → Reached last used
      → Reached last (used_with used (Some class) n)
  used_reached class qid zero last used l can same none fits r = subst (λ (u : Used). Reached last u) (sym (used_none used class)) r
  used_reached class qid (suc n) last used l can same none fits r =
      let before = used_reached class qid n last used l can same none (omega arith) r in
      let room : HasRoom s (used_with used (Some class) n) class = has_room s used class n none l fits in
      subst (λ (u : Used). Reached last u) (used_more used class n) (subst (λ (k : Last). Reached k (used_with (used_with used (Some class) n) (Some class) 1)) same (served_reached class qid last (used_with used (Some class) n) can room before))

-- ---- the weighted mechanism
no_one : (o : Option ℕ) → is_none o ≡ true → o ≡ None
no_one None h = refl
no_one (Some x) h = absurd (cc)

-- a level of which no more is used than its weight
level_reached : (s : ArbitrationFields) (class : Class) (o : Option ℕ) (n : ℕ) (last : Last) (used : Used) → IsLevel class → can_serve class o ≡ true → can_use (weight_of s class) o n ≡ true
    → ((qid : ℕ) → o ≡ Some qid → last_with last (Some class) qid ≡ last) → used_of used class ≡ 0 → Reached s last used → Reached s last (used_with used (Some class) n)
level_reached s class None n last used l can fits same none r =
    let zero : n ≡ 0 = eqb-true n 0 (or_false (n == 0) (and_parts (nat_le n (weight_of s class)) ((n == 0) || false) fits).1) in
    subst (λ (k : ℕ). Reached s last (used_with used (Some class) k)) (sym zero) (subst (λ (u : Used). Reached s last u) (sym (used_none used class)) r)
level_reached s class (Some qid) n last used l can fits same none r =
    used_reached s class qid n last used l can (same qid refl) none (leb-true n (weight_of s class) (and_parts (nat_le n (weight_of s class)) ((n == 0) || true) fits).0) r

-- the identifiers served last of the classes, one after another
by : (a u h m l : Option ℕ) → Last
by a u h m l = record { all = None; by_class = record { admin = a; urgent = u; high = h; medium = m; low = l } }

served_all : (s : ArbitrationFields) (a u h m l : Option ℕ) → can_serve Admin a ≡ true → can_serve Urgent u ≡ true → can_serve High h ≡ true → can_serve Medium m ≡ true → can_serve Low l ≡ true → Reached s (by a u h m l) nothing_used
unfolding by
served_all s a u h m l ca cu ch cm cl =
    class_reached s Low l (by a u h m None) cl refl (class_reached s Medium m (by a u h None None) cm refl (class_reached s High h (by a u None None None) ch refl
    (class_reached s Urgent u (by a None None None None) cu refl (class_reached s Admin a (by None None None None None) ca refl (first_reached s)))))

plus_none : (n : ℕ) → 0 + n ≡ n
plus_none n = omega arith

used_all : (s : ArbitrationFields) (a u h m l : Option ℕ) (x y z : ℕ) → can_serve High h ≡ true → can_serve Medium m ≡ true → can_serve Low l ≡ true
    → can_use (weight_of s High) h x ≡ true → can_use (weight_of s Medium) m y ≡ true → can_use (weight_of s Low) l z ≡ true → Reached s (by a u h m l) nothing_used
    → Reached s (by a u h m l) (record { high = x; medium = y; low = z })
unfolding by
used_all s a u h m l x y z ch cm cl ux uy uz r =
    let high : Used = used_with nothing_used (Some High) x in
    let medium : Used = used_with high (Some Medium) y in
    let all : used_with medium (Some Low) z ≡ record { high = x; medium = y; low = z } = rw (plus_none x, plus_none y, plus_none z) refl in
    subst (λ (k : Used). Reached s (by a u h m l) k) all
    (level_reached s Low l z (by a u h m l) medium tt cl uz (λ qid e. ap (λ (o : Option ℕ). by a u h m o) (sym e)) refl
    (level_reached s Medium m y (by a u h m l) high tt cm uy (λ qid e. ap (λ (o : Option ℕ). by a u h o l) (sym e)) refl
    (level_reached s High h x (by a u h m l) nothing_used tt ch ux (λ qid e. ap (λ (o : Option ℕ). by a u o m l) (sym e)) refl r)))

weighted_reached : (s : ArbitrationFields) (last : Last) (used : Used) → last_fits Weighted last ≡ true → used_fits Weighted s last used ≡ true → Reached s last used
unfolding by
weighted_reached s last used f g =
    let c = last.by_class in
    let none = and_parts (is_none last.all) _ f in
    let a = and_parts (can_serve Admin c.admin) _ none.1 in
    let u = and_parts (can_serve Urgent c.urgent) _ a.1 in
    let h = and_parts (can_serve High c.high) _ u.1 in
    let ml = and_parts (can_serve Medium c.medium) (can_serve Low c.low) h.1 in
    let x = and_parts (can_use (weight_of s High) c.high used.high) _ g in
    let yz = and_parts (can_use (weight_of s Medium) c.medium used.medium) (can_use (weight_of s Low) c.low used.low) x.1 in
    let same : by c.admin c.urgent c.high c.medium c.low ≡ last = ap (λ (o : Option ℕ). record last { all = o }) (sym (no_one last.all none.0)) in
    subst (λ (k : Last). Reached s k used) same
    (used_all s c.admin c.urgent c.high c.medium c.low used.high used.medium used.low h.0 ml.0 ml.1 x.0 yz.0 yz.1 (served_all s c.admin c.urgent c.high c.medium c.low a.0 u.0 h.0 ml.0 ml.1))

-- ---- round robin
any_class : ℕ → Class
any_class qid = if qid == 0 then Admin else High

any_serve : (qid : ℕ) (zero : Bool) → (qid == 0) ≡ zero → nat_le qid highest_qid ≡ true → can_serve (if zero then Admin else High) (Some qid) ≡ true
any_serve qid true e h = e
any_serve qid false e h =
    let some = eqb-false qid 0 e in
    let least : nat_le 1 qid ≡ true = le-leb 1 qid (omega (arith, some)) in rw (least, h) refl

picked_round : (s : ArbitrationFields) (class : Class) (qid : ℕ) → round_robin_pick s None (one class qid ∷ []) ≡ Some (pick_one qid)
unfolding one pick_one
picked_round s class qid =
    elim (cases_Bool (qid == 0)) [
      | inl y ↦ rw y refl
      | inr n ↦ rw (n, burst_one s) refl
    ]

round_kept : ArbitrationFields → Option ℕ → Kept
round_kept s o = record (first_kept RoundRobin s) { last = record { all = o; by_class = same_for_all None } }

round_reached : (s : ArbitrationFields) (o : Option ℕ) → can_be_last o ≡ true → (prior : History) × IsBuilt (round_kept s o) prior
unfolding round_kept serve one pick_one any_class
round_reached s None can = ([], record { lawful = tt; stands = stands_first RoundRobin s; used = tt; quiet = λ class other qid. refl })
round_reached s (Some qid) can =
    let class = any_class qid in
    let seen : List Seen = one class qid ∷ [] in (
      serve class qid [],
      record {
        lawful = (observation_by_test seen (seen_one class qid (any_serve qid (qid == 0) refl can)), picked_round s class qid, tt);
        stands = stands_picked RoundRobin s [] (first_kept RoundRobin s) seen (pick_one qid) (stands_first RoundRobin s);
        used = tt;
        quiet = quiet_more class qid [] (λ class other qid. refl);
      },
    )

same_last : (x a u h m l o : Option ℕ) → x ≡ o → a ≡ None → u ≡ None → h ≡ None → m ≡ None → l ≡ None
    → ◌≡◌ {A = Last} (record { all = x; by_class = record { admin = a; urgent = u; high = h; medium = m; low = l } }) (record { all = o; by_class = same_for_all None })
same_last x a u h m l o ex ea eu eh em el = rw (ex, ea, eu, eh, em, el) refl

same_used : (x y z : ℕ) → x ≡ 0 → y ≡ 0 → z ≡ 0 → ◌≡◌ {A = Used} (record { high = x; medium = y; low = z }) nothing_used
same_used x y z ex ey ez = rw (ex, ey, ez) refl

none_served : (o : Option ℕ) (last : Last) → last.all ≡ o → last_fits RoundRobin last ≡ true → (last ≡ record { all = o; by_class = same_for_all None }) × (can_be_last o ≡ true)
none_served o last e f =
    let c = last.by_class in
    let can = and_parts (can_be_last last.all) _ f in
    let a = and_parts (is_none c.admin) _ can.1 in
    let u = and_parts (is_none c.urgent) _ a.1 in
    let h = and_parts (is_none c.high) _ u.1 in
    let ml = and_parts (is_none c.medium) (is_none c.low) h.1 in
    let admin = no_one c.admin a.0 in
    let urgent = no_one c.urgent u.0 in
    let high = no_one c.high h.0 in
    let medium = no_one c.medium ml.0 in
    let low = no_one c.low ml.1 in
    (same_last last.all c.admin c.urgent c.high c.medium c.low o e admin urgent high medium low, subst (λ (x : Option ℕ). can_be_last x ≡ true) e can.0)

none_used : (s : ArbitrationFields) (last : Last) (used : Used) → used_fits RoundRobin s last used ≡ true → used ≡ nothing_used
none_used s last used g =
    let h = and_parts (used.high == 0) _ g in
    let ml = and_parts (used.medium == 0) (used.low == 0) h.1 in
    let high = eqb-true used.high 0 h.0 in
    let medium = eqb-true used.medium 0 ml.0 in
    let low = eqb-true used.low 0 ml.1 in same_used used.high used.medium used.low high medium low

by_mechanism : (m : Mechanism) (s : ArbitrationFields) (last : Last) (used : Used) → last_fits m last ≡ true → used_fits m s last used ≡ true
    → (prior : History) × IsBuilt (record { mechanism = m; settings = s; last = last; used = used }) prior
unfolding round_kept Reached kept_with
by_mechanism RoundRobin s last used f g =
    let served = none_served last.all last refl f in
    let nothing = none_used s last used g in
    subst (λ (l : Last). (prior : History) × IsBuilt (record { mechanism = RoundRobin; settings = s; last = l; used = used }) prior) (sym served.0)
    (subst (λ (u : Used). (prior : History) × IsBuilt (record { mechanism = RoundRobin; settings = s; last = record { all = last.all; by_class = same_for_all None }; used = u }) prior) (sym nothing)
    (round_reached s last.all served.1))
by_mechanism Weighted s last used f g = weighted_reached s last used f g

pub priors : StartsHavePriors
priors kept can =
    let (prior, is) = by_mechanism kept.mechanism kept.settings kept.last kept.used can.last can.used in
    (prior, record { lawful = is.lawful; stands = is.stands; used = is.used }, is.quiet)
