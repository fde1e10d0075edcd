-- What is read of the matches: a number or a request, where there is one.
use Rattle.std.specs.Prelude.{◌≡◌, ◌≢◌, ℕ, List, Option, Some, None, Result, Ok, Err, String}
use Rattle.std.specs.Global.{Global}
use Rattle.clap.specs.Words.{Row, Text, kind_of}
use Rattle.clap.specs.declared.error.kind.ErrorKind.{ErrorKind}
use Rattle.clap.specs.declared.error.kind.ErrorKind.TheVariants.{OutOfMemory}
use Rattle.nvme_words.specs.declared.requests.Request.{Request}
use Rattle.nvme_words.specs.declared.requests.Request.TheVariants as request
use Rattle.nvme_words.specs.declared.requests.WordsError.{WordsError}
use Rattle.nvme_words.specs.declared.requests.WordsError.TheVariants as error
use Rattle.nvme_words.specs.Requests.{Given, IsGivenBy, IsHelp, IsNumber, IsRequestOf}

-- the one that P holds of, where there is one
abbrev pub IsOneIfAny : {X : Type 0} → (X → Type 0) → Option X → Type 0
IsOneIfAny P (Some x) = P x
IsOneIfAny {X} P None = (x : X) → P x → ⊥

abbrev pub IsNumberIfAny : ℕ → Text → List Row → Option ℕ → Type 0
IsNumberIfAny bits id rows = IsOneIfAny (IsNumber bits id rows)

abbrev pub IsRequestOfIfAny : Given → Option Request → Type 0
IsRequestOfIfAny given = IsOneIfAny (IsRequestOf given)

abbrev pub IsRequestIfAny : List (String Global) → Option Given → Option Request → Type 0
IsRequestIfAny words given = IsOneIfAny (IsGivenBy words given)

-- what becomes of an error of this kind
abbrev pub IsTextFor : List (String Global) → ErrorKind → Result Request WordsError → Type 0
IsTextFor words kind (Ok (request.Help text)) = (kind_of text ≡ kind) × IsHelp words kind
IsTextFor words kind (Ok request) = ⊥
IsTextFor words kind (Err (error.CommandLine text)) = (kind_of text ≡ kind) × (kind ≢ OutOfMemory) × (IsHelp words kind → ⊥)
IsTextFor words kind (Err (error.NoMemory why)) = kind ≡ OutOfMemory
IsTextFor words kind (Err error.OtherWord) = ⊥
