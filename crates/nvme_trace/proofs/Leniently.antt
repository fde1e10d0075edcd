-- A trace that the profile reads and allows is read and allowed where the specification alone judges.
use Rattle.std.proofs.Common.{◌≡◌, ◌+◌, ◌≤◌, ◌==◌, ◌||◌, ◌++◌, Bool, reverse, arith, true, false, List, ◌∷◌, [], ℕ, Option, Some, None, refl, sym, ap, subst, ◌∙◌}
use mathlib.Core.List.{reverse-cons, reverse-reverse}
use Rattle.std.specs.Prelude.{is_some, ok_or, option_map, IfSome, if◌then◌else◌, Result, Ok, Err}
use Rattle.std.proofs.lemmas.Bool.{eqb-false, le-leb}
use Rattle.serde_json.specs.Data.{Data}
use Rattle.serde_json.specs.Find.{get, as_bool}
use Rattle.nvme_arbiter.specs.Settings.{ArbitrationFields, weight_of}
use Rattle.nvme_arbiter.specs.ByClass.{same_for_all}
use Rattle.nvme_arbiter.specs.Lawful.{IsLawfulRun}
use Rattle.nvme_arbiter.specs.Standing.{first_kept, nothing_used}
use Rattle.nvme_arbiter.specs.declared.kept.Kept.{Kept}
use Rattle.nvme_arbiter.specs.declared.settings.Class.TheVariants.{High, Medium, Low}
use Rattle.nvme_arbiter.specs.declared.settings.Mechanism.{Mechanism}
use Rattle.nvme_arbiter.specs.declared.settings.Mechanism.TheVariants.{RoundRobin, Weighted}
use Rattle.nvme_arbiter.proofs.Stands.{stands_first}
use Rattle.nvme_judge.specs.Starts.{IsPrior}
use Rattle.nvme_arbiter.specs.History.{ArbitrationEvent, History}
use Rattle.nvme_trace.proofs.Exactness.{same_told}
use Rattle.nvme_trace.proofs.TakenLemmas.{lawful_taken, taken_after_none, taken_after_specified}
use Rattle.nvme_trace.specs.Fields.{text_of}
use Rattle.nvme_trace.specs.Readings.{◌>>=◌, ◌>>◌, seen_by, only, whole, number_at, flag_at}
use Rattle.nvme_trace.specs.Format.{data_of, object_in, basics_in, head_in, last_from, last_told, used_from, used_told, if_last_fits, if_used_fits, start_in, head_of_kept, head_of_line, start_of_line, set_in, but_zero, room_at, room_in, room_read, room_by, rooms_of, fresh_in, pick_in, event_in, event_by}
use Rattle.nvme_lines.specs.Lines.{told_lines}
use Rattle.nvme_trace.specs.Taken.{TellSomeRoom}
use Rattle.nvme_trace.specs.Checks.{Tells, TellsBy, start_of_told, NothingIsBefore, LawfulTextsPass, LawfulTextsAreAllowed, TextsAreReadAsWritten, TextsAreReadAlike}
use Rattle.nvme_trace.specs.declared.basis.Basis.TheVariants.{Profile, Specification}
use Rattle.nvme_trace.specs.declared.fault.LineFault.{LineFault}
use Rattle.nvme_trace.specs.declared.fault.LineFault.TheVariants.{Missing, Bad, Unknown}
use Rattle.nvme_trace.specs.declared.fault.Field.TheVariants as field
use Rattle.nvme_trace.specs.declared.records.Head.{Head}

-- ---- one step after another
then_same : {A B : Type 0} (r : Result A LineFault) (f g : A → Result B LineFault) (e : B) → ((x : A) → f x ≡ Ok e → g x ≡ Ok e) → (r >>= f) ≡ Ok e → (r >>= g) ≡ Ok e
then_same (Ok x) f g e h is = h x is
then_same (Err fault) f g e h is = absurd (cc)

first_same : {A B : Type 0} (r s : Result A LineFault) (f : A → Result B LineFault) (e : B) → ((x : A) → r ≡ Ok x → s ≡ Ok x) → (r >>= f) ≡ Ok e → (s >>= f) ≡ Ok e
first_same (Ok x) s f e h is = rw (h x refl) is
first_same (Err fault) s f e h is = absurd (cc)

then_after : {A B : Type 0} (r : Result A LineFault) (s t : Result B LineFault) (e : B) → (s ≡ Ok e → t ≡ Ok e) → (r >> s) ≡ Ok e → (r >> t) ≡ Ok e
then_after (Ok x) s t e h is = h is
then_after (Err fault) s t e h is = absurd (cc)

-- ---- a line
missing : (o : Option Data) (b : Bool) → o ≡ None → (ok_or o (Missing field.Fresh) >>= (λ v. ok_or (as_bool v) (Bad field.Fresh))) ≡ Ok b → ⊥
missing None b o is = cc
missing (Some v) b o is = cc

fresh_by : (o : Option Data) (d : Data) (b : Bool) → get (text_of field.Fresh) d ≡ o → flag_at field.Fresh d ≡ Ok b → (if is_some o then flag_at field.Fresh d else Ok false) ≡ Ok b
unfolding flag_at
fresh_by None d b o is = absurd (missing (get (text_of field.Fresh) d) b o is)
fresh_by (Some v) d b o is = is

fresh_same : (d : Data) (b : Bool) → fresh_in Profile d ≡ Ok b → fresh_in Specification d ≡ Ok b
unfolding fresh_in
fresh_same d b is = fresh_by (get (text_of field.Fresh) d) d b refl is

pick_same : (d : Data) (e : ArbitrationEvent) → pick_in Profile d ≡ Ok e → pick_in Specification d ≡ Ok e
unfolding pick_in
pick_same d e is =
    then_same (number_at field.Pick 65535 d) _ _ e (λ qid. then_same (number_at field.N 65535 d) _ _ e (λ n. then_after (room_in d) _ _ e (first_same (fresh_in Profile d) (fresh_in Specification d) _ e (fresh_same d)))) is

event_same : (set : Bool) (d : Data) (e : ArbitrationEvent) → (if set then set_in d else pick_in Profile d) ≡ Ok e → (if set then set_in d else pick_in Specification d) ≡ Ok e
event_same true d e is = is
event_same false d e is = pick_same d e is

line_same : (line : List ℕ) (e : ArbitrationEvent) → event_by Profile line ≡ Ok e → event_by Specification line ≡ Ok e
unfolding event_by event_in
line_same line e is =
    then_same (data_of line) _ _ e (λ d. then_after (object_in d) _ _ e (event_same (is_some (get (text_of field.Set) d)) d e)) is

-- a room that is told is not 0
number_some : (zero : Bool) (n : ℕ) → (n == 0) ≡ zero → IfSome (room_read (ok_or (option_map (λ n. Some n) (if zero then None else Some n)) (Bad field.Room))) (λ n. 1 ≤ n)
number_some true n e = tt
number_some false n e = let some = eqb-false n 0 e in omega (arith, some)

but_zero_some : (o : Option ℕ) → IfSome (room_read (ok_or (option_map (λ n. Some n) (but_zero o)) (Bad field.Room))) (λ n. 1 ≤ n)
but_zero_some None = tt
but_zero_some (Some n) = number_some (n == 0) n refl

at_least_one : (o : Option Data) → IfSome (room_read (room_at o)) (λ n. 1 ≤ n)
at_least_one None = tt
at_least_one (Some v) = but_zero_some (whole 65535 v)

told_some : (set : Bool) (d : Data) → IfSome (room_read (if set then Ok None else room_in d)) (λ n. 1 ≤ n)
unfolding room_in
told_some true d = tt
told_some false d = at_least_one (get (text_of field.Room) d)

line_some : (r : Result Data LineFault) → IfSome (room_by r) (λ n. 1 ≤ n)
line_some (Ok d) = told_some (is_some (get (text_of field.Set) d)) d
line_some (Err e) = tt

rooms_some : (lines : List (ℕ × List ℕ)) → TellSomeRoom (rooms_of lines)
rooms_some [] = tt
rooms_some (line ∷ lines) = (line_some (data_of line.1), rooms_some lines)

-- ---- a head that tells no state
then_kept : (r : Result Data LineFault) (f : Data → Result Head LineFault) (g : Data → Result Kept LineFault) (head : Head) (kept : Kept) → ((x : Data) → f x ≡ Ok head → g x ≡ Ok kept) → (r >>= f) ≡ Ok head → (r >>= g) ≡ Ok kept
then_kept (Ok x) f g head kept h is = h x is
then_kept (Err fault) f g head kept h is = absurd (cc)

after_kept : (r : Result (Unit {0}) LineFault) (s : Result Head LineFault) (t : Result Kept LineFault) (head : Head) (kept : Kept) → (s ≡ Ok head → t ≡ Ok kept) → (r >> s) ≡ Ok head → (r >> t) ≡ Ok kept
after_kept (Ok x) s t head kept h is = h is
after_kept (Err fault) s t head kept h is = absurd (cc)

last_first : (m : Mechanism) (s : ArbitrationFields) → if_last_fits (record { mechanism = m; settings = s }) (record { all = None; by_class = same_for_all None }) ≡ Ok tt
last_first RoundRobin s = refl
last_first Weighted s = refl

used_first : (m : Mechanism) (s : ArbitrationFields) → if_used_fits (record { mechanism = m; settings = s }) (record { all = None; by_class = same_for_all None }) nothing_used ≡ Ok tt
used_first RoundRobin s = refl
used_first Weighted s = rw (le-leb 0 (weight_of s High) (omega arith), le-leb 0 (weight_of s Medium) (omega arith), le-leb 0 (weight_of s Low) (omega arith)) refl

none_told : (r : Result Head LineFault) (last used : Option Data) (d : Data) (head : Head) → (if is_some last || is_some used then Err Unknown else (r >>= (λ h. only 3 d >> Ok h))) ≡ Ok head
    → (r >>= (λ h. last_from last >>= (λ l. if_last_fits h l >> (used_from used >>= (λ u. if_used_fits h l u >> (only ((if is_some last then 4 else 3) + (if is_some used then 1 else 0)) d >> Ok (record { mechanism = h.mechanism; settings = h.settings; last = l; used = u })))))))
    ≡ Ok (first_kept head.mechanism head.settings)
none_told (Ok h) None None d head is =
    rw (last_first h.mechanism h.settings, used_first h.mechanism h.settings) (after_kept (only 3 d) (Ok h) (Ok (first_kept h.mechanism h.settings)) head (first_kept head.mechanism head.settings)
    (λ e. let same : h ≡ head = cc in ap (λ (k : Head). Ok (first_kept k.mechanism k.settings)) same) is)
none_told (Err e) None None d head is = absurd (cc)
none_told r (Some v) used d head is = absurd (cc)
none_told r None (Some v) d head is = absurd (cc)

start_same : (d : Data) (head : Head) → head_in d ≡ Ok head → start_in d ≡ Ok (first_kept head.mechanism head.settings)
unfolding head_in start_in last_told used_told
start_same d head is = none_told (basics_in d) (get (text_of field.Last) d) (get (text_of field.Used) d) d head is

start_read : (line : List ℕ) (head : Head) → head_of_line line ≡ Ok head → start_of_line line ≡ Ok (first_kept head.mechanism head.settings)
unfolding head_of_line start_of_line
start_read line head is =
    let start = first_kept head.mechanism head.settings in
    then_kept (data_of line) _ _ head start (λ d. after_kept (object_in d) _ _ head start (start_same d head)) is

-- ---- a text
profile_same : (head : Head) (past : History) (lines : List (ℕ × List ℕ)) → Tells head past lines → TellsBy Profile head past lines
profile_same head [] lines (line, is, h) = (line, is, ap (seen_by head_of_kept) (start_read line.1 head h))
profile_same head (e ∷ past) lines (line, earlier, is, says, more) = (line, earlier, is, says, profile_same head past earlier more)

read_same : (head : Head) (past : History) (lines : List (ℕ × List ℕ)) → TellsBy Profile head past lines → TellsBy Specification head past lines
read_same head [] lines t = t
read_same head (e ∷ past) lines (line, earlier, is, says, more) = (line, earlier, is, line_same line.1 e says, read_same head past earlier more)

first_before : (lines : List (ℕ × List ℕ)) (line : ℕ × List ℕ) (start : Kept) → start_of_told lines ≡ Ok start → start_of_told (lines ++ line ∷ []) ≡ Ok start
first_before [] line start is = absurd (cc)
first_before (one ∷ lines) line start is = is

-- the first line of those that tell, which are the last one first
first_told : (head : Head) (past : History) (lines : List (ℕ × List ℕ)) → Tells head past lines → start_of_told (reverse lines) ≡ Ok (first_kept head.mechanism head.settings)
first_told head [] lines (line, is, h) = rw is (start_read line.1 head h)
first_told head (e ∷ past) lines (line, earlier, is, says, more) =
    let before = first_told head past earlier more in rw (is, reverse-cons line earlier) (first_before (reverse earlier) line (first_kept head.mechanism head.settings) before)

-- nothing is before it
no_prior : (m : Mechanism) (s : ArbitrationFields) → IsPrior (first_kept m s) []
no_prior RoundRobin s = record { lawful = tt; stands = stands_first RoundRobin s; used = tt }
no_prior Weighted s = record { lawful = tt; stands = stands_first Weighted s; used = refl }

pub nothing_before : NothingIsBefore
nothing_before text line later head is h =
    ((first_kept head.mechanism head.settings, ap start_of_told is ∙ start_read line.1 head h, refl, no_prior head.mechanism head.settings), λ class other qid. refl)

pub passes : LawfulTextsPass
passes text picks l = record {
  head = l.head;
  past = l.past;
  prior = [];
  tells = profile_same l.head l.past _ l.tells;
  begins = (first_kept l.head.mechanism l.head.settings, ap start_of_told (sym (reverse-reverse (told_lines text))) ∙ first_told l.head l.past _ l.tells, refl, no_prior l.head.mechanism l.head.settings);
  lawful = taken_after_none l.head.mechanism l.head.settings l.past _ (lawful_taken l.head.mechanism l.head.settings l.past _ l.no_room l.lawful);
  picks_are = l.picks_are;
}

pub allowed : LawfulTextsAreAllowed
allowed text picks l =
    let (start, reads, head, before) = l.begins in
    record {
      head = l.head;
      past = l.past;
      prior = l.prior;
      tells = read_same l.head l.past _ l.tells;
      begins = l.begins;
      lawful = taken_after_specified l.head.mechanism l.head.settings l.prior l.past _ (rooms_some (reverse (told_lines text)))
          (subst (λ (h : Head). IsLawfulRun h.mechanism h.settings l.prior) head before.lawful) l.lawful;
      picks_are = l.picks_are;
    }

pub read_alike : TextsAreReadAlike
read_alike text head other past events w s =
    let lines : List (ℕ × List ℕ) = reverse (told_lines text) in
    let same = same_told Specification head other past events lines (read_same head past lines w) s in
    (sym same.heads, sym same.pasts)

pub read_as_written : TextsAreReadAsWritten
read_as_written text head other past events w s = read_alike text head other past events (profile_same head past (reverse (told_lines text)) w) s
