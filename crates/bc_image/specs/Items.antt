-- In the theorem.
-- The items of an image: what may stand where.
use Rattle.std.specs.Prelude.{◌≡◌, ℕ, ◌+◌, ◌-◌, ◌*◌, ◌/◌, ◌%◌, ◌^◌, ◌<◌, ◌≤◌, ◌==◌, ◌&&◌, ◌||◌, Bool, true, false, nat_lt, nat_le, if◌then◌else◌, List, slice_index}
use Rattle.bc_classes.specs.Classes.{class_of}
use Rattle.bc_classes.specs.ClassNumbers.{IsClass}
use Rattle.bc_word.specs.Heads.{fields_of_bits, domain_of_bits, lane_of_bits, serial_of_bits}
use Rattle.bc_image.specs.declared.fault.ImageCause.{ImageCause}
use Rattle.bc_image.specs.declared.fault.ImageCause.TheVariants as causes
use Rattle.bc_image.specs.declared.progress.Progress.{Progress}
use Rattle.bc_image.specs.declared.progress.Stage.{Stage}
use Rattle.bc_image.specs.declared.progress.Stage.TheVariants as stages

-- a number is from the least to the most
abbrev pub is_within : ℕ → ℕ → ℕ → Bool
is_within least most n = nat_le least n && nat_le n most

-- the eight bytes `bcimage1`
abbrev pub magic : ℕ
magic = 7089626156917810481

-- the number is a size class
abbrev pub is_class : ℕ → Bool
is_class n = (n == 2) || ((n == 4) || ((n == 8) || ((n == 16) || ((n == 32) || ((n == 64) || (n == 128))))))

-- nil, a number, or a reference to below the end
abbrev pub is_root : ℕ → ℕ → Bool
is_root end n = (n == 0) || ((n % 2 == 1) || nat_le (n / 2) end)

-- the bits of the head of an object that may lie in this superpage: of a lane that has made so many, of the superpage's domain, and with
-- as many fields as its class holds
abbrev pub is_head : Progress → List ℕ → ℕ → Bool
is_head p births bits =
    nat_lt (lane_of_bits bits) p.setup.lanes
    && (nat_le 1 (serial_of_bits bits)
    && (nat_le (serial_of_bits bits) (slice_index births (lane_of_bits bits))
    && ((domain_of_bits bits == p.domain) && (class_of (fields_of_bits bits) == p.class))))

-- an item of this stage passes its test
abbrev pub passes_at : Stage → Progress → List ℕ → ℕ → Bool
passes_at stages.Magic p births n = n == magic
passes_at stages.Version p births n = is_within 1 3 n
passes_at stages.Lanes p births n = is_within 1 16 n
passes_at stages.Domains p births n = is_within 1 64 n
passes_at stages.Slots p births n = is_within 1 256 n
passes_at stages.Superpages p births n = is_within 1 4096 n
passes_at stages.Nursery p births n = is_within 1 16 n
passes_at stages.Buffer p births n = is_within 1 4096 n
passes_at stages.Frames p births n =
    is_within (p.setup.lanes * p.setup.nursery + 2) (p.setup.lanes * p.setup.nursery + 4 * p.setup.superpages) n
passes_at stages.Phases p births n = nat_le n 4294967295
passes_at stages.Holder p births n = nat_lt n p.setup.lanes || ((n == p.setup.lanes) && nat_le 2 p.version)
passes_at stages.Birth p births n = nat_le n 4000000000
passes_at stages.Root p births n = is_root (2048 * p.setup.superpages) n
passes_at stages.Pair p births n = (n == 0) || (is_class (n % 256) && nat_lt (n / 256) p.setup.domains)
passes_at stages.Count p births n = is_within 1 (2048 / p.class) n
passes_at stages.Address p births n = (n / 2048 == p.superpage) && ((n % p.class == 0) && nat_le p.least n)
passes_at stages.Head p births n = nat_lt n (2 ^ 49) && is_head p births n
passes_at stages.Field p births n = true
passes_at stages.Finished p births n = true

-- the item may stand here, but for births that stand twice and references to nowhere
unfoldable pub passes : Progress → List ℕ → ℕ → Bool
passes p births n = passes_at p.stage p births n

-- nothing more may stand
abbrev pub is_finished : Stage → Bool
is_finished stages.Finished = true
is_finished _ = false

-- what is wrong with an item that doesn't pass
abbrev pub cause_of : Stage → ImageCause
cause_of stages.Magic = causes.Magic
cause_of stages.Address = causes.Cell
cause_of stages.Head = causes.Cell
cause_of _ = causes.Range

-- the progress after the last item of a superpage
abbrev pub superpage_ended : Progress → Progress
superpage_ended p = record p { superpage = p.superpage + 1; stage = if p.superpage + 1 == p.setup.superpages then stages.Finished else stages.Pair }

-- the progress after the last item of an object
abbrev pub object_ended : Progress → Progress
object_ended p =
    let q : Progress = record p { left = p.left - 1; least = p.address + p.class; stage = stages.Address } in
    if p.left - 1 == 0 then superpage_ended q else q

-- the progress after one item of a stage that has so many
abbrev pub one_stood : Progress → ℕ → Stage → Progress
one_stood p all next = if p.stood + 1 == all then record p { stood = 0; stage = next } else record p { stood = p.stood + 1 }

-- the progress after a head or a field: at the object's end if no field is left
abbrev pub field_stood : Progress → Progress
field_stood p = if p.fields == 0 then object_ended p else p

-- the progress after an item of this stage that passed
abbrev pub advanced_at : Stage → Progress → ℕ → Progress
advanced_at stages.Magic p n = record p { stage = stages.Version }
advanced_at stages.Version p n = record p { version = n; stage = stages.Lanes }
advanced_at stages.Lanes p n = record p { setup = record (p.setup) { lanes = n }; stage = stages.Domains }
advanced_at stages.Domains p n = record p { setup = record (p.setup) { domains = n }; stage = stages.Slots }
advanced_at stages.Slots p n = record p { setup = record (p.setup) { slots = n }; stage = stages.Superpages }
advanced_at stages.Superpages p n = record p { setup = record (p.setup) { superpages = n }; stage = stages.Nursery }
advanced_at stages.Nursery p n = record p { setup = record (p.setup) { nursery = n }; stage = stages.Buffer }
advanced_at stages.Buffer p n = record p { setup = record (p.setup) { buffer = n }; stage = stages.Frames }
advanced_at stages.Frames p n = record p { setup = record (p.setup) { frames = n }; stage = stages.Phases }
advanced_at stages.Phases p n = record p { phases = n; stage = stages.Holder }
advanced_at stages.Holder p n = one_stood p p.setup.domains stages.Birth
advanced_at stages.Birth p n = one_stood p p.setup.lanes stages.Root
advanced_at stages.Root p n = one_stood p (p.setup.domains * p.setup.slots) stages.Pair
advanced_at stages.Pair p n = if n == 0 then superpage_ended p else record p { class = n % 256; domain = n / 256; stage = stages.Count }
advanced_at stages.Count p n = record p { left = n; least = 2048 * p.superpage; stage = stages.Address }
advanced_at stages.Address p n = record p { address = n; stage = stages.Head }
advanced_at stages.Head p n = field_stood (record p { fields = n % 128; stage = stages.Field })
advanced_at stages.Field p n = field_stood (record p { fields = p.fields - 1 })
advanced_at stages.Finished p n = p

-- the progress after an item that passed
unfoldable pub advanced : Progress → ℕ → Progress
advanced p n = advanced_at p.stage p n

-- the progress before the first item
abbrev pub first_progress : Progress
first_progress = record {
  stage = stages.Magic;
  version = 0;
  setup = record { lanes = 1; domains = 1; slots = 1; superpages = 1; nursery = 0; buffer = 0; frames = 0 };
  phases = 0;
  stood = 0;
  superpage = 0;
  class = 0;
  domain = 0;
  left = 0;
  least = 0;
  address = 0;
  fields = 0;
}

-- which numbers may stand at the stage: small ones, but for words, heads and the first item
abbrev pub IsSmallItem : Stage → ℕ → Type 0
IsSmallItem stages.Pair n = n / 256 < 2 ^ 32
IsSmallItem stages.Magic n = Unit {0}
IsSmallItem stages.Holder n = Unit {0}
IsSmallItem stages.Root n = Unit {0}
IsSmallItem stages.Head n = Unit {0}
IsSmallItem stages.Field n = Unit {0}
IsSmallItem stages.Finished n = Unit {0}
IsSmallItem _ n = n < 2 ^ 32

-- inside a superpage an object is left to read, and inside an object a field
abbrev pub HasObjectLeft : Stage → Progress → Type 0
HasObjectLeft stages.Head p = 0 < p.left
HasObjectLeft stages.Field p = (0 < p.left) × (0 < p.fields)
HasObjectLeft stages.Address p = 0 < p.left
HasObjectLeft _ p = Unit {0}

-- inside a superpage the class is a size class
abbrev pub HasClass : Stage → Progress → Type 0
HasClass stages.Count p = IsClass p.class
HasClass stages.Address p = IsClass p.class
HasClass stages.Head p = IsClass p.class
HasClass stages.Field p = IsClass p.class
HasClass _ p = Unit {0}

-- how far the count of the stage has come
abbrev pub HasPlace : Stage → Progress → Type 0
HasPlace stages.Holder p = (p.stood < p.setup.domains) × (p.superpage ≡ 0)
HasPlace stages.Birth p = (p.stood < p.setup.lanes) × (p.superpage ≡ 0)
HasPlace stages.Root p = (p.stood < p.setup.domains * p.setup.slots) × (p.superpage ≡ 0)
HasPlace stages.Pair p = p.superpage < p.setup.superpages
HasPlace stages.Count p = p.superpage < p.setup.superpages
HasPlace stages.Address p = p.superpage < p.setup.superpages
HasPlace stages.Head p = p.superpage < p.setup.superpages
HasPlace stages.Field p = p.superpage < p.setup.superpages
HasPlace stages.Finished p = Unit {0}
HasPlace _ p = (p.stood ≡ 0) × (p.superpage ≡ 0)

-- the numbers that were read so far are within their bounds
pub record IsBoundedProgress (p : Progress) : Type 0 where
  pub some_lanes : 1 ≤ p.setup.lanes
  pub lanes : p.setup.lanes ≤ 16
  pub some_domains : 1 ≤ p.setup.domains
  pub domains : p.setup.domains ≤ 64
  pub some_slots : 1 ≤ p.setup.slots
  pub slots : p.setup.slots ≤ 256
  pub some_superpages : 1 ≤ p.setup.superpages
  pub superpages : p.setup.superpages ≤ 4096
  pub nursery : p.setup.nursery ≤ 16
  pub stood : p.stood ≤ 16384
  pub superpage : p.superpage ≤ 4096
  pub address : p.address ≤ 2048 * 4097
  pub class : p.class ≤ 255

-- a progress to which reading may come
pub record IsProgress (p : Progress) : Type 0 where
  pub bounded : IsBoundedProgress p
  pub place : HasPlace p.stage p
  pub object : HasObjectLeft p.stage p
  pub classed : HasClass p.stage p
