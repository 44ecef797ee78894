-- What was read, and what stands in the files.
use Rattle.std.proofs.Common.{◌≡◌, ◌<◌, ◌≤◌, ℕ, List, length, Option, Some, None, Ok, Err, true, false, refl, sym, ap, ◌∙◌, subst, arith}
use Rattle.std.specs.Prelude.{IsSomeAnd, nat_lt}
use Rattle.std.proofs.lemmas.Bool.Decides.{nat_tests}
use Rattle.outside.specs.Outside.{Content, file_at}
use Rattle.rv_inst.specs.declared.image.Image.{Image}
use Rattle.rv_asm.specs.declared.error.AsmError.{AsmError}
use Rattle.rv_asm.specs.declared.error.AsmError.TheVariants as errors
use Rattle.rv_asm.specs.Images.{image_of}
use Rattle.run_texts.specs.Schedules.{schedule_of}
use Rattle.settings.specs.declared.command.Command.{Command}
use Rattle.settings.specs.declared.command.Command.TheVariants.{Asm, Run, Sim, Replay, Stress}
use Rattle.pm2_top.specs.Asked.{source_limit, schedule_limit, source_in, MayBe, MayBeSuch, MayBeRead, MayBeGiven, image_in, acts_in, acts_of, IsImageOf}

-- ## What may be there

such : (told : Option (Option (List ℕ))) (P Q : List ℕ → Type 0) → ((b : List ℕ) → P b → Q b) → MayBeSuch told P → MayBeSuch told Q
such None P Q f h = h
such (Some None) P Q f h = h
such (Some (Some b)) P Q f h = f b h

be_such : (told : Option (Option (List ℕ))) (bytes : List ℕ) (P : List ℕ → Type 0) → P bytes → MayBe told bytes → MayBeSuch told P
be_such None bytes P p h = h
be_such (Some file) bytes P p h = subst (λ o. IsSomeAnd o P) (sym h) p

pub at_told : (told : Option (Option (List ℕ))) (bytes : List ℕ) (P : List ℕ → Type 0) → told ≡ Some (Some bytes) → MayBeSuch told P → P bytes
at_told told bytes P is h = subst (λ o. MayBeSuch o P) is h

-- ## The source

pub too_long : (bytes : List ℕ) → source_limit < length bytes → image_of bytes ≡ Err errors.TooLong
too_long bytes more = let is : nat_lt source_limit (length bytes) ≡ true = grind (arith, nat_tests) in rw is refl

read_source : (told : Option (Option (List ℕ))) (source : Option (List ℕ)) → MayBeRead source_limit told source → MayBeSuch told (λ b. image_of b ≡ image_in source)
read_source told None h = such told (λ b. source_limit < length b) (λ b. image_of b ≡ Err errors.TooLong) too_long h
read_source told (Some bytes) h = be_such told bytes (λ b. image_of b ≡ image_of bytes) refl h.0

-- what stands there has the image that was found, or none for the same reason
pub source_such : (files : Content) (command : Command) (source schedule : Option (List ℕ)) → MayBeGiven files command source schedule
    → MayBeSuch (source_in files command) (λ b. image_of b ≡ image_in source)
source_such files (Asm name) source schedule h = read_source (file_at files name) source h
source_such files (Run name) source schedule h = read_source (file_at files name) source h
source_such files (Sim name) source schedule h = read_source (file_at files name) source h
source_such files (Replay name acts) source schedule h = read_source (file_at files name) source h.0
source_such files (Stress jobs) source schedule h = ap image_in (sym h)

pub no_source : (files : Content) (command : Command) (source schedule : Option (List ℕ)) (error : AsmError) → MayBeGiven files command source schedule → image_in source ≡ Err error
    → MayBeSuch (source_in files command) (λ b. image_of b ≡ Err error)
no_source files command source schedule error h is =
    such (source_in files command) (λ b. image_of b ≡ image_in source) (λ b. image_of b ≡ Err error) (λ b same. same ∙ is) (source_such files command source schedule h)

maybe_source : (files : Content) (command : Command) (bytes : List ℕ) (schedule : Option (List ℕ)) → MayBeGiven files command (Some bytes) schedule → MayBe (source_in files command) bytes
maybe_source files (Asm name) bytes schedule h = h.0
maybe_source files (Run name) bytes schedule h = h.0
maybe_source files (Sim name) bytes schedule h = h.0
maybe_source files (Replay name acts) bytes schedule h = h.0.0
maybe_source files (Stress jobs) bytes schedule h = sym h

-- the image that was found may be that of the source
pub image_given : (files : Content) (command : Command) (source schedule : Option (List ℕ)) (image : Image) → MayBeGiven files command source schedule → image_in source ≡ Ok image
    → IsImageOf files command image
image_given files command None schedule image h is = let bad : image_in None ≡ Ok image = is in cc
image_given files command (Some bytes) schedule image h is = record { bytes = bytes; source = maybe_source files command bytes schedule h; assembled = is }

-- ## The schedule

long : (nodes processors : ℕ) (bytes : List ℕ) → schedule_limit < length bytes → acts_of nodes processors bytes ≡ Err 0
long nodes processors bytes more = let is : nat_lt schedule_limit (length bytes) ≡ true = grind (arith, nat_tests) in rw is refl

short : (nodes processors : ℕ) (bytes : List ℕ) → length bytes ≤ schedule_limit → acts_of nodes processors bytes ≡ schedule_of nodes processors bytes
short nodes processors bytes few = let is : nat_lt schedule_limit (length bytes) ≡ false = grind (arith, nat_tests) in rw is refl

-- what stands there has the acts that were found, or none for the same reason
pub schedule_such : (nodes processors : ℕ) (told : Option (Option (List ℕ))) (schedule : Option (List ℕ)) → MayBeRead schedule_limit told schedule → MayBeSuch told (λ b. acts_of nodes processors b ≡ acts_in nodes processors schedule)
schedule_such nodes processors told None h = such told (λ b. schedule_limit < length b) (λ b. acts_of nodes processors b ≡ Err 0) (long nodes processors) h
schedule_such nodes processors told (Some bytes) h = be_such told bytes (λ b. acts_of nodes processors b ≡ schedule_of nodes processors bytes) (short nodes processors bytes h.1) h.0

pub no_schedule : (nodes processors line : ℕ) (told : Option (Option (List ℕ))) (schedule : Option (List ℕ)) → MayBeRead schedule_limit told schedule → acts_in nodes processors schedule ≡ Err line
    → MayBeSuch told (λ b. acts_of nodes processors b ≡ Err line)
no_schedule nodes processors line told schedule h is = such told (λ b. acts_of nodes processors b ≡ acts_in nodes processors schedule) (λ b. acts_of nodes processors b ≡ Err line) (λ b same. same ∙ is) (schedule_such nodes processors told schedule h)
