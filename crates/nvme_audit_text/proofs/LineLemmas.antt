-- The line that comes next, and its fault.
use Rattle.std.proofs.Common.{◌≡◌, ◌≢◌, ℕ, ◌<◌, ltb, true, List, length, Option, Some, None, Result, Ok, Err, inl, inr, refl, sym, ap, subst}
use Rattle.std.proofs.lemmas.Bool.{lt-ltb}
use Rattle.nvme_lines.specs.Lines.{longest_line, lines_of, numbered, TakesTold, StartsTold, HasNoTold, MeetsTold}
use Rattle.nvme_lines.specs.declared.lines.NextError.{NextError}
use Rattle.nvme_lines.specs.declared.lines.NextError.TheVariants as next
use Rattle.nvme_audit.specs.declared.event.Event.{Event}
use Rattle.nvme_audit_text.specs.Readings.{◌>>=◌, Fails}
use Rattle.nvme_audit_text.specs.Format.{Heard, event_heard, data_of, head_of_line, said_of_line, event_of_line}
use Rattle.nvme_audit_text.specs.declared.fault.LineFault.{LineFault}
use Rattle.nvme_audit_text.specs.declared.fault.LineFault.TheVariants as faults
use Rattle.nvme_audit_text.specs.declared.fault.LogError.{LogError}
use Rattle.nvme_audit_text.specs.declared.fault.LogError.TheVariants as error
use Rattle.nvme_audit_text.specs.declared.views.View.{View}
use Rattle.nvme_audit_text.specs.declared.head.Head.{Head}
use Rattle.nvme_audit_text.specs.inside.Steps.{IsOther, IsLineFault, IsStopped, HasHeadFault, IsHeadFault, IsEventFault}

-- the event of queues in what a line tells
abbrev event_said : Result Heard LineFault → Result (Option Event) LineFault
event_said r = r >>= (λ said. Ok (event_heard said))

takes_so : (P Q : List ℕ → Type 0) (m n : ℕ) (a b : Option (List ℕ)) → ((l : List ℕ) → P l → Q l) → TakesTold P m a n b → TakesTold Q m a n b
takes_so P Q m n None b f t = tt
takes_so P Q m n (Some xs) None f t = t
takes_so P Q m n (Some xs) (Some ys) f (line, split, is, count) = (line, split, f line is, count)

pub takes_event : (view : View) (head : Head) (said : Heard) (m n : ℕ) (a b : Option (List ℕ)) → TakesTold (λ line. said_of_line view head line ≡ Ok said) m a n b → TakesTold (λ line. event_of_line view head line ≡ Ok (event_heard said)) m a n b
takes_event view head said m n a b t = takes_so (λ line. said_of_line view head line ≡ Ok said) (λ line. event_of_line view head line ≡ Ok (event_heard said)) m n a b (λ l is. ap event_said is) t

starts_as : (P : List ℕ → Type 0) (line : List ℕ) (m n : ℕ) (a b : Option (List ℕ)) → TakesTold (λ l. l ≡ line) m a n b → P line → StartsTold P m a n
starts_as P line m n None b t p = tt
starts_as P line m n (Some xs) None t p = absurd t
starts_as P line m n (Some xs) (Some ys) (l, split, is, count) p = (l, numbered n (lines_of ys), split, subst P (sym is) p)

starts_so : (P Q : List ℕ → Type 0) (m n : ℕ) (a : Option (List ℕ)) → ((l : List ℕ) → P l → Q l) → StartsTold P m a n → StartsTold Q m a n
starts_so P Q m n None f s = tt
starts_so P Q m n (Some xs) f (l, rest, split, p) = (l, rest, split, f l p)

-- a fault that isn't `NoMemory` is the line's
failed : {Y : Type 0} (fault : LineFault) (reading : Result Y LineFault) → Fails fault reading → fault ≢ faults.NoMemory → reading ≡ Err fault
failed faults.NoMemory reading f n = absurd (n refl)
failed faults.NoHead reading f n = f
failed faults.TooLong reading f n = f
failed faults.NotUtf8 reading f n = f
failed faults.NotJson reading f n = f
failed faults.NotObject reading f n = f
failed (faults.Missing field) reading f n = f
failed (faults.Bad field) reading f n = f
failed faults.Unknown reading f n = f
failed faults.NoKind reading f n = f
failed (faults.Untold kind) reading f n = f
failed (faults.NotTold kind) reading f n = f
failed (faults.NoMechanism kind) reading f n = f
failed (faults.Arbitration fault) reading f n = f

head_starts : (view : View) (fault : LineFault) (m n : ℕ) (a : Option (List ℕ)) → StartsTold (λ line. head_of_line view line ≡ Err fault) m a n → HasHeadFault view fault m a n
head_starts view fault m n None s = tt
head_starts view fault m n (Some xs) s = inr s

told_head : (view : View) (e : LogError) (m number : ℕ) (fault : LineFault) (a : Option (List ℕ)) → IsLineFault e number fault → (fault ≢ faults.NoMemory → HasHeadFault view fault m a number) → IsHeadFault view e m a
told_head view (error.Line line f note) m number fault a (n, is, other) h =
    subst (λ (k : ℕ). HasHeadFault view f m a k) (sym n) (subst (λ (x : LineFault). HasHeadFault view x m a number) (sym is) (h other))
told_head view error.Read m number fault a t h = tt
told_head view error.TooLong m number fault a t h = tt
told_head view error.NoMemory m number fault a t h = tt

told_event : (view : View) (head : Head) (e : LogError) (m number : ℕ) (fault : LineFault) (a : Option (List ℕ)) → IsLineFault e number fault → (fault ≢ faults.NoMemory → StartsTold (λ line. event_of_line view head line ≡ Err fault) m a number) → IsEventFault view head e m a
told_event view head (error.Line line f note) m number fault a (n, is, other) h =
    subst (λ (k : ℕ). StartsTold (λ text. event_of_line view head text ≡ Err f) m a k) (sym n) (subst (λ (x : LineFault). StartsTold (λ line. event_of_line view head line ≡ Err x) m a number) (sym is) (h other))
told_event view head error.Read m number fault a t h = tt
told_event view head error.TooLong m number fault a t h = tt
told_event view head error.NoMemory m number fault a t h = tt

-- a line that was read
pub head_fails : (view : View) (e : LogError) (m number : ℕ) (fault : LineFault) (line : List ℕ) (a b : Option (List ℕ)) → IsLineFault e number fault → TakesTold (λ l. l ≡ line) m a number b → Fails fault (head_of_line view line) → IsHeadFault view e m a
head_fails view e m number fault line a b told t f =
    told_head view e m number fault a told (λ n. head_starts view fault m number a (starts_as (λ l. head_of_line view l ≡ Err fault) line m number a b t (failed fault (head_of_line view line) f n)))

pub said_fails : (view : View) (head : Head) (e : LogError) (m number : ℕ) (fault : LineFault) (line : List ℕ) (a b : Option (List ℕ)) → IsLineFault e number fault → TakesTold (λ l. l ≡ line) m a number b → Fails fault (said_of_line view head line) → IsEventFault view head e m a
said_fails view head e m number fault line a b told t f =
    told_event view head e m number fault a told (λ n. starts_as (λ l. event_of_line view head l ≡ Err fault) line m number a b t (ap event_said (failed fault (said_of_line view head line) f n)))

-- a line that is too long
long_head : (view : View) (line : List ℕ) → longest_line < length line → head_of_line view line ≡ Err faults.TooLong
unfolding head_of_line data_of
long_head view line h = let e : ltb longest_line (length line) ≡ true = lt-ltb _ _ h in rw e

long_event : (view : View) (head : Head) (line : List ℕ) → longest_line < length line → event_of_line view head line ≡ Err faults.TooLong
unfolding said_of_line data_of
long_event view head line h = let e : ltb longest_line (length line) ≡ true = lt-ltb _ _ h in rw e

other_head : (view : View) (e : LogError) (m : ℕ) (a : Option (List ℕ)) → IsOther e → IsHeadFault view e m a
other_head view (error.Line line fault note) m a o = absurd o
other_head view error.Read m a o = tt
other_head view error.TooLong m a o = tt
other_head view error.NoMemory m a o = tt

other_event : (view : View) (head : Head) (e : LogError) (m : ℕ) (a : Option (List ℕ)) → IsOther e → IsEventFault view head e m a
other_event view head (error.Line line fault note) m a o = absurd o
other_event view head error.Read m a o = tt
other_event view head error.TooLong m a o = tt
other_event view head error.NoMemory m a o = tt

-- no line was taken
pub stopped_head : (view : View) (why : NextError) (e : LogError) (m number : ℕ) (a : Option (List ℕ)) → IsStopped e why number → MeetsTold why m a number → IsHeadFault view e m a
stopped_head view next.TooLong e m number a told s = told_head view e m number faults.TooLong a told (λ n. head_starts view faults.TooLong m number a (starts_so _ (λ l. head_of_line view l ≡ Err faults.TooLong) m number a (long_head view) s))
stopped_head view next.Read e m number a o s = other_head view e m a o
stopped_head view next.NoMemory e m number a o s = other_head view e m a o

pub stopped_event : (view : View) (head : Head) (why : NextError) (e : LogError) (m number : ℕ) (a : Option (List ℕ)) → IsStopped e why number → MeetsTold why m a number → IsEventFault view head e m a
stopped_event view head next.TooLong e m number a told s = told_event view head e m number faults.TooLong a told (λ n. starts_so _ (λ l. event_of_line view head l ≡ Err faults.TooLong) m number a (long_event view head) s)
stopped_event view head next.Read e m number a o s = other_event view head e m a o
stopped_event view head next.NoMemory e m number a o s = other_event view head e m a o

-- a text of blank lines
no_line : (view : View) (m : ℕ) (a : Option (List ℕ)) → HasNoTold m a → HasHeadFault view faults.NoHead m a 1
no_line view m None n = tt
no_line view m (Some xs) n = inl (n, refl, refl)

pub no_head : (view : View) (e : LogError) (m : ℕ) (a : Option (List ℕ)) → IsLineFault e 1 faults.NoHead → HasNoTold m a → IsHeadFault view e m a
no_head view e m a told n = told_head view e m 1 faults.NoHead a told (λ _. no_line view m a n)
