-- A turn that failed, of a front with the feeders of its rings.
use Rattle.std.proofs.Common.{◌≡◌, ℕ, zero, suc, List, [], ◌∷◌, map, drop, refl, sym, ap, ◌∙◌, subst}
use Rattle.std.specs.Prelude.{◌≢◌, slice_index_or}
use Rattle.std.proofs.lemmas.List.{take-append-drop}
use Rattle.std.proofs.lemmas.Simd.{map-map}
use mathlib.Core.List.{IsPrefix}
use Rattle.nvme_entry.specs.declared.submission.Sqe.{Sqe}
use Rattle.nvme_lane.specs.Feeder.{script_of, count_of}
use Rattle.nvme_lane.specs.declared.feeder.Feeder.{Feeder}
use Rattle.nvme_lane.proofs.Prefixes.{IsPrefix-trans}
use Rattle.nvme_front.specs.Hosts.{IsFedBy, submitted_at}
use Rattle.nvme_front.specs.View.{FrontView, GoesOn, got_in}
use Rattle.nvme_front.specs.declared.front.FrontError.{FrontError}
use Rattle.nvme_front.specs.declared.front.FrontError.TheVariants as front
use Rattle.nvme_threads.specs.declared.drives.DriveError.{DriveError}
use Rattle.nvme_threads.specs.declared.drives.DriveError.TheVariants as drive
use Rattle.nvme_threads.specs.Fed.{script_at, FedTurnFails, IsFedFault}
use Rattle.nvme_threads.specs.Hosts.{feeder_seen}
use Rattle.nvme_threads.specs.inside.Drives.{FailsAt, IsFaultAt}

-- where the same is seen of two lists, the same is seen of what is seen
seen_of : {X Y Z : Type 0} (f : X → Y) (h : Y → Z) (xs ys : List X) → map f xs ≡ map f ys → map (λ x. h (f x)) xs ≡ map (λ x. h (f x)) ys
seen_of f h xs ys e = sym (map-map h f xs) ∙ ap (map h) e ∙ map-map h f ys

-- the feeders of a front that came back are those of one that went on
pub still_fed : (v w : FrontView) (fs fs' : List (Feeder Sqe)) → IsFedBy v fs → map feeder_seen fs' ≡ map feeder_seen fs → GoesOn v w → IsFedBy w fs'
still_fed v w fs fs' fed seen goes = seen_of feeder_seen (λ p. p.1) fs' fs seen ∙ fed ∙ sym goes.gets

-- what was submitted is the first of the script
submitted_first : (fs : List (Feeder Sqe)) (r : ℕ) → IsPrefix (submitted_at fs r) (script_at fs r)
submitted_first [] r = ([], refl)
submitted_first (f ∷ fs) zero = (drop (count_of f) (script_of f), take-append-drop (count_of f) (script_of f))
submitted_first (f ∷ fs) (suc r) = submitted_first fs r

-- so is what was got
fails_fed : (v w : FrontView) (fs fs' : List (Feeder Sqe)) (e : FrontError) → map feeder_seen fs' ≡ map feeder_seen fs → FailsAt v w e
    → ((r : ℕ) → IsPrefix (got_in w r) (submitted_at fs' r)) → FedTurnFails v fs e
fails_fed v w fs fs' e seen at got = record {
  fails = at.fails;
  scripts = λ r.
      let first = IsPrefix-trans (got_in w r) (submitted_at fs' r) (script_at fs' r) (got r) (submitted_first fs' r) in
      let same : script_at fs' r ≡ script_at fs r = ap (λ z. slice_index_or z r []) (seen_of feeder_seen (λ p. p.0) fs' fs seen) in
      subst (λ (x : FrontView). IsPrefix (got_in x r) (script_at fs r)) (sym at.is_now) (subst (λ z. IsPrefix (got_in w r) z) same first);
}

pub fed_fault : (v w : FrontView) (fs fs' : List (Feeder Sqe)) (e : DriveError) → (e ≢ drive.NoMemory → map feeder_seen fs' ≡ map feeder_seen fs) → IsFaultAt v w e
    → (e ≢ drive.NoMemory → (r : ℕ) → IsPrefix (got_in w r) (submitted_at fs' r)) → IsFedFault v fs e
fed_fault v w fs fs' drive.NoMemory seen at got = tt
fed_fault v w fs fs' (drive.Front front.NoMemory) seen at got = absurd at
fed_fault v w fs fs' (drive.Front front.LogFull) seen at got = fails_fed v w fs fs' front.LogFull (seen (λ e. cc e)) at (got (λ e. cc e))
fed_fault v w fs fs' (drive.Front (front.Stray ticket)) seen at got = fails_fed v w fs fs' (front.Stray ticket) (seen (λ e. cc e)) at (got (λ e. cc e))
