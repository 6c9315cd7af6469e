-- The promises of images.
-- Assumes nothing.
use mathlib.Core.Path.{◌≡◌, refl, sym, ap, ◌∙◌}
use mathlib.Core.Bool.{Bool, true, false}
use mathlib.Core.List.{List, [], ◌++◌, append-nil}
use Prim.Native.Nat.{ℕ, ◌<◌, ◌≤◌}
use native.Mathlib.Omega.{arith}
use lib.Dec.{ltb}
use lib.ListN.{length, take, drop}
use lib.Seq.{take_at}
use Rattle.numbers.specs.Choice.{first}
use Rattle.dictionary.specs.Names.{configured, words, index_at, sub_at}
use Rattle.dictionary.specs.Unit.{unticked}
use Rattle.dictionary.proofs.OneEach.{slots_apart}
use Rattle.roles.specs.Values.{at_start}
use Rattle.records.specs.Layout.{listed, entry, image_of}
use Rattle.records.specs.declared.types.Refusal.{Refusal}
use Rattle.records.specs.declared.types.Refusal.TheVariants.{NoRoom}
use Rattle.records.specs.LookUp.{looked, look_up}
use Rattle.records.proofs.lookup.FindLaws.{counted}
use Rattle.records.proofs.lookup.EntryLaws.{Named, at_entry, no_entry}
use Rattle.image.specs.Reading.{reading, configuration_in}
use Rattle.image.proofs.reading.Acceptance.{Accepted, accepted, accepts, not_good}
use Rattle.image.specs.Written.{Written, image_size}
use Rattle.records.proofs.SizeLaws.{image_length}
use Rattle.image.specs.Loaded.{loaded}
use Rattle.image.proofs.Once.{written_once, loaded_once}
use Rattle.image.proofs.ImageTrips.{configuration_back, image_accepted, bytes_again, configuration_valid, all_listed, entry_index, entry_sub, data_at}
use Rattle.promises.specs.Running.{run}
use Rattle.promises.specs.Images.{SavedReadsBack, SameBytesAgain, AcceptsExactly, OneConfigurationEach, RefusalsWriteNothing, OneOutcome, LookedUpAsItStands}
use Rattle.promises.proofs.Running.{sizes, always_sound}
use Rattle.std.specs.Prelude.{Result, Ok, Err, ⊤}

-- ---- what a contract leaves

module _ {words buffer buffer' : List ℕ} {w : Result ⊤ Refusal} (s : Written words buffer buffer' w) where
  roomy : w ≡ Ok tt → ltb (length buffer) image_size ≡ false
  unfolding first
  roomy g = go (ltb (length buffer) image_size) (sym s.answered ∙ g)
    where
      go : (b : Bool) → first {A = Result ⊤ Refusal} b (Err NoRoom) (Ok tt) ≡ Ok tt → b ≡ false
      go true e = absurd (not_good e)
      go false e = refl

  pub image_there : w ≡ Ok tt → take image_size buffer' ≡ image_of words
  unfolding first image_size
  image_there g = rw (s.bytes, roomy g) (take_at (image_of words) (drop 5207 buffer) 5207 (image_length words))

  nothing_there : (why : Refusal) → w ≡ Err why → buffer' ≡ buffer
  unfolding first
  nothing_there why e = go (ltb (length buffer) image_size) (sym s.answered ∙ e) s.bytes
    where
      go : (b : Bool) → first {A = Result ⊤ Refusal} b (Err NoRoom) (Ok tt) ≡ Err why → buffer' ≡ first b buffer (image_of words ++ drop image_size buffer) → buffer' ≡ buffer
      go true q h = h
      go false q h = absurd (not_good (sym q))

-- ---- a name looked up

in_words : {slot : ℕ} → slot < configured → slot < words
unfolding configured words
in_words h = omega arith

-- an entry has its slot's name, and no other entry has it
own_name : (slot : ℕ) → slot < configured → Named (index_at slot) (sub_at slot) (entry listed slot)
own_name slot h = (entry_index slot h, entry_sub slot h)

one_entry : (k slot : ℕ) → k < configured → slot < configured → Named (index_at slot) (sub_at slot) (entry listed k) → k ≡ slot
one_entry k slot h l m =
    let own = own_name k h in
    slots_apart k slot (in_words h) (in_words l) (sym own.0 ∙ m.0) (sym own.1 ∙ m.1)

-- ---- the promises

pub saved_reads_back : SavedReadsBack
unfolding loaded
saved_reads_back events buffer buffer' other other' w r made s g l =
    let sound = always_sound events made in
    let unit = run events at_start in
    let long : configured ≤ length unit = omega (arith, sound.size, sizes) in
    let image = image_there s g in
    let good : reading (take image_size buffer') ≡ Ok tt = ap reading image ∙ accepts (image_of unit) (image_accepted unit sound.valid long) in (
      l.answered ∙ good,
      l.state ∙ ap (loaded (take image_size buffer') other) good
          ∙ ap (λ (c : List ℕ). c ++ drop configured (unticked other)) (ap configuration_in image ∙ configuration_back unit sound.valid long),
    )

pub same_bytes_again : SameBytesAgain
unfolding loaded
same_bytes_again image unit unit' buffer buffer' r w b l g s h =
    let good = sym l.answered ∙ g in
    image_there s h ∙ ap image_of (l.state ∙ ap (loaded image unit) good) ∙ bytes_again image (accepted image good) b (drop configured (unticked unit))

pub accepts_exactly : AcceptsExactly
accepts_exactly = (
  λ image b g. (
    configuration_valid image (accepted image g) b,
    sym (bytes_again image (accepted image g) b []) ∙ ap image_of (append-nil (configuration_in image)),
  ),
  λ unit long v. accepts (image_of unit) (image_accepted unit v long),
)

pub one_configuration_each : OneConfigurationEach
one_configuration_each unit other long long' v v' e =
    sym (configuration_back unit v long) ∙ ap configuration_in e ∙ configuration_back other v' long'

pub refusals_write_nothing : RefusalsWriteNothing
unfolding loaded
refusals_write_nothing =
    (λ words buffer buffer' why s. nothing_there s why refl, λ image unit unit' why l. l.state ∙ ap (loaded image unit) (sym l.answered))

pub one_outcome : OneOutcome
one_outcome = (λ words buffer b₁ b₂ r s p q. written_once p q, λ image unit u₁ u₂ r s p q. loaded_once p q)

pub looked_up_as_it_stands : LookedUpAsItStands
looked_up_as_it_stands image b g = (
  λ slot h.
      start (index_at slot) (sub_at slot)
      ∙ at_entry (index_at slot) (sub_at slot) listed (drop 4 image) a.walk.rights slot (omega (arith, all_listed)) (own_name slot h)
      (λ k l m. let same = one_entry k slot (omega arith) h m in omega arith)
      ∙ data_at image a b slot h,
  λ index sub none.
      start index sub
      ∙ no_entry index sub listed (drop 4 image) a.walk.rights
      (λ k l m. let h : k < configured = omega (arith, all_listed) in let own = own_name k h in none k h (sym own.0 ∙ m.0, sym own.1 ∙ m.1)),
)
  where
    a : Accepted image
    a = accepted image g

    -- the count tells of as many records as there are entries
    start : (index sub : ℕ) → look_up image index sub ≡ looked (length listed) index sub (drop 4 image)
    start index sub = counted image index sub a.walk.headed ∙ ap (λ (n : ℕ). looked n index sub (drop 4 image)) (a.walk.counted ∙ sym all_listed)
