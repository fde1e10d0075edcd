-- What is kept of a queue tells the picks so far.
use Rattle.std.proofs.Common.{◌≡◌, ℕ, suc, zero, ◌+◌, ◌≤◌, ◌==◌, ◌&&◌, ◌||◌, not, Bool, true, false, List, [], ◌∷◌, replicate, refl, sym, subst, ◌∙◌, arith}
use Rattle.std.specs.Prelude.{Option, Some, None, if◌then◌else◌, slice_index_or}
use Rattle.std.proofs.lemmas.Bool.{le-leb, lt-leb}
use Rattle.nvme_arbiter.specs.History.{Picked, Changed, History}
use Rattle.nvme_arbiter.specs.Specified.{is_pick_in, has_waited}
use Rattle.nvme_arbiter.specs.declared.settings.Class.{Class}
use Rattle.nvme_arbiter.specs.declared.pick.Seen.{Seen}
use Rattle.nvme_arbiter.specs.declared.pick.Pick.{Pick}
use Rattle.nvme_judge.specs.declared.turns.Turn.{Turn}
use Rattle.nvme_judge.specs.Turns.{picks_in, is_ready_in, latest_pick, or_number, waits_since, is_since, turn_after, no_turn}
use Rattle.nvme_judge.specs.inside.Steps.{turn_with}

-- ---- at first
replicated : (n qid : ℕ) → slice_index_or (replicate n no_turn) qid no_turn ≡ no_turn
replicated zero qid = refl
replicated (suc n) zero = refl
replicated (suc n) (suc qid) = replicated n qid

pub made : (turn : Turn) → turn ≡ no_turn → (qid : ℕ) → slice_index_or (replicate 65 turn) qid no_turn ≡ no_turn
made turn is qid = subst (λ (t : Turn). slice_index_or (replicate 65 t) qid no_turn ≡ no_turn) (sym is) (replicated 65 qid)

-- ---- the numbers of picks
abbrev AtMost : ℕ → Option ℕ → Type 0
AtMost n None = Unit {0}
AtMost n (Some m) = m ≤ n

more : (n : ℕ) (o : Option ℕ) → AtMost n o → AtMost (n + 1) o
more n None h = tt
more n (Some m) h = omega arith

either : (b : Bool) (n : ℕ) (x y : Option ℕ) → AtMost n x → AtMost n y → AtMost n (if b then x else y)
either true n x y h k = h
either false n x y h k = k

latest_at_most : (class : Option Class) (qid : ℕ) (past : History) → AtMost (picks_in past) (latest_pick class qid past)
latest_at_most class qid [] = tt
latest_at_most class qid (Changed settings ∷ past) = latest_at_most class qid past
latest_at_most class qid (Picked seen pick ∷ past) =
    either (is_pick_in class seen pick && (pick.qid == qid)) (picks_in past + 1) (Some (picks_in past + 1)) (latest_pick class qid past) (omega arith) (more (picks_in past) (latest_pick class qid past) (latest_at_most class qid past))

or_at_most : (n : ℕ) (o : Option ℕ) → AtMost n o → or_number o (n + 1) ≤ n + 1
or_at_most n None h = omega arith
or_at_most n (Some m) h = omega arith

since_at_most : (class : Option Class) (qid : ℕ) (past : History) → AtMost (picks_in past) (waits_since class qid past)
since_at_most class qid [] = tt
since_at_most class qid (Changed settings ∷ past) = since_at_most class qid past
since_at_most class qid (Picked seen pick ∷ past) =
    let n : ℕ = picks_in past in
    let before = since_at_most class qid past in
    either (is_pick_in class seen pick) (n + 1) (if is_ready_in class qid seen && not (pick.qid == qid) then Some (or_number (waits_since class qid past) (n + 1)) else None) (waits_since class qid past)
    (either (is_ready_in class qid seen && not (pick.qid == qid)) (n + 1) (Some (or_number (waits_since class qid past) (n + 1))) None (or_at_most n (waits_since class qid past) before) tt)
    (more n (waits_since class qid past) before)

-- ---- who has waited
since_new : (n : ℕ) (since : Option ℕ) → AtMost n since → is_since (Some (or_number since (n + 1))) (Some (n + 1)) ≡ true
since_new n None h = le-leb (n + 1) (n + 1) (omega arith)
since_new n (Some m) h = le-leb m (n + 1) (omega arith)

since_old : (n : ℕ) (since latest : Option ℕ) → AtMost n latest → is_since (Some (or_number since (n + 1))) latest ≡ is_since since latest
since_old n None None h = refl
since_old n None (Some l) h = lt-leb (n + 1) l (omega arith)
since_old n (Some m) latest h = refl

waited_step : (mine ready picked other : Bool) (n : ℕ) (w : Bool) (since latest : Option ℕ) → w ≡ is_since since latest → AtMost n since → AtMost n latest
    → (if mine then ready && (not picked && (other || w)) else w) ≡ is_since (if mine then (if ready && not picked then Some (or_number since (n + 1)) else None) else since) (if mine && other then Some (n + 1) else latest)
waited_step false ready picked other n w since latest e s l = e
waited_step true false picked other n w since latest e s l = refl
waited_step true true true other n w since latest e s l = refl
waited_step true true false true n w since latest e s l = sym (since_new n since s)
waited_step true true false false n w since latest e s l = e ∙ sym (since_old n since latest l)

pub waited : (class : Option Class) (other qid : ℕ) (past : History) → has_waited class other qid past ≡ is_since (waits_since class qid past) (latest_pick class other past)
waited class other qid [] = refl
waited class other qid (Changed settings ∷ past) = waited class other qid past
waited class other qid (Picked seen pick ∷ past) =
    waited_step (is_pick_in class seen pick) (is_ready_in class qid seen) (pick.qid == qid) (pick.qid == other) (picks_in past) (has_waited class other qid past) (waits_since class qid past) (latest_pick class other past)
    (waited class other qid past) (since_at_most class qid past) (latest_at_most class other past)

-- ---- one pick more
turn_step : (mine ready picked : Bool) (n : ℕ) (since latest : Option ℕ) → mine ≡ true
    → ◌≡◌ {A = Turn} (record { latest = (if mine && picked then Some n else latest); since = (if mine then (if ready && not picked then Some (or_number since n) else None) else since) }) (turn_with n picked ready (record { latest = latest; since = since }))
turn_step true false false n since latest e = refl
turn_step true false true n since latest e = refl
turn_step true true false n since latest e = refl
turn_step true true true n since latest e = refl
turn_step false ready picked n since latest e = absurd (cc)

turn_stays : (mine ready picked : Bool) (n : ℕ) (since latest : Option ℕ) → mine ≡ false
    → ◌≡◌ {A = Turn} (record { latest = (if mine && picked then Some n else latest); since = (if mine then (if ready && not picked then Some (or_number since n) else None) else since) }) (record { latest = latest; since = since })
turn_stays false ready picked n since latest e = refl
turn_stays true ready picked n since latest e = absurd (cc)

-- a pick that counts
pub turn_more : (class : Option Class) (qid : ℕ) (past : History) (seen : List Seen) (pick : Pick) → is_pick_in class seen pick ≡ true
    → turn_after class qid (Picked seen pick ∷ past) ≡ turn_with (picks_in past + 1) (pick.qid == qid) (is_ready_in class qid seen) (turn_after class qid past)
turn_more class qid past seen pick is =
    turn_step (is_pick_in class seen pick) (is_ready_in class qid seen) (pick.qid == qid) (picks_in past + 1) (waits_since class qid past) (latest_pick class qid past) is

-- a pick of another class
pub turn_same : (class : Option Class) (qid : ℕ) (past : History) (seen : List Seen) (pick : Pick) → is_pick_in class seen pick ≡ false
    → turn_after class qid (Picked seen pick ∷ past) ≡ turn_after class qid past
turn_same class qid past seen pick is =
    turn_stays (is_pick_in class seen pick) (is_ready_in class qid seen) (pick.qid == qid) (picks_in past + 1) (waits_since class qid past) (latest_pick class qid past) is
