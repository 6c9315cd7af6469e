-- The table of "Names", in the paper's rows and order, with each row's sentence above it.
-- Assumes nothing.
use Rattle.std.specs.Prelude.{ℕ, ◌+◌, ◌-◌, ◌*◌, ℤ, pos, negsuc, eqb}
use mathlib.Core.List.{List, [], ◌∷◌, ◌++◌, flat_map}
use Rattle.numbers.specs.Choice.{first}
use Rattle.dictionary.specs.declared.types.Kind.{Kind}
use Rattle.dictionary.specs.declared.types.Kind.TheVariants.{Unsigned8, Integer16, Unsigned16, Real32, Unsigned32}
use Rattle.dictionary.specs.declared.types.Range.{Range}

-- the bytes of a type
unfoldable pub width : Kind → ℕ
width Unsigned8 = 1
width Integer16 = 2
width Unsigned16 = 2
width Real32 = 4
width Unsigned32 = 4

-- "type low..high = default": a default is given as its pattern
pub record Value : Type 0 where
  pub range : Range
  pub start : ℕ

-- one index with its subs, and what each sub holds
pub record Row : Type 0 where
  pub index : ℕ
  pub from : ℕ
  pub to : ℕ
  pub holds : ℕ → Value

-- a value of each type. A type with no range given has the whole range of the type
abbrev pub u8 : ℕ → ℕ → ℕ → Value
u8 low high start = record { range = record { kind = Unsigned8; low = pos low; high = pos high }; start = start }

abbrev pub u16 : ℕ → ℕ → ℕ → Value
u16 low high start = record { range = record { kind = Unsigned16; low = pos low; high = pos high }; start = start }

abbrev pub i16_between : ℤ → ℤ → ℕ → Value
i16_between low high start = record { range = record { kind = Integer16; low = low; high = high }; start = start }

abbrev pub i16 : ℕ → Value
i16 start = i16_between (negsuc 32767) (pos 32767) start

abbrev pub real32 : ℕ → Value
real32 start = record { range = record { kind = Real32; low = pos 0; high = pos 0 }; start = start }

-- an UNSIGNED32 can only be read
abbrev pub u32 : ℕ → Value
u32 start = record { range = record { kind = Unsigned32; low = pos 0; high = pos 0 }; start = start }

-- "D means UNSIGNED8 0..3 = 0"
abbrev pub D : Value
D = u8 0 3 0

-- a VAR has its value at sub 0, an ARRAY its values from sub 1
abbrev pub var : ℕ → Value → Row
var index v = record { index = index; from = 0; to = 0; holds = λ sub. v }

abbrev pub array : ℕ → ℕ → Value → Row
array index last v = record { index = index; from = 1; to = last; holds = λ sub. v }

-- an ARRAY whose subs differ
abbrev pub array_by : ℕ → ℕ → (ℕ → Value) → Row
array_by index last holds = record { index = index; from = 1; to = last; holds = holds }

-- a family's rows for each of its letters
abbrev pub each : List ℕ → (ℕ → List Row) → List Row
each letters rows = flat_map rows letters

abbrev pub source : Value
source = u8 0 6 0

abbrev pub number : Value
number = u8 0 15 0

-- "condition: source 0..6, number 0..15, source, number, comparison 0..5, all u8 = 0"
unfoldable pub condition : ℕ → Value
condition sub =
    first (eqb sub 1) source (first (eqb sub 2) number (first (eqb sub 3) source (first (eqb sub 4) number (u8 0 5 0))))

-- "axis type u8 0..0 = 0", "response u8 0..2 = 1"
unfoldable pub axis_or_response : ℕ → Value
axis_or_response sub = first (eqb sub 1) (u8 0 0 0) (u8 0 2 1)

-- "X, Y: i16 = 0, 100, .. 1000"
abbrev pub point : ℕ → Value
point sub = i16 (100 * (sub - 1))

-- "operator u8 0..4 = 1,1,0"
unfoldable pub operator : ℕ → Value
operator sub = u8 0 4 (first (eqb sub 3) 0 1)

-- 4x11h-13h, 21h-23h, 31h-33h
unfoldable pub conditions : ℕ → List Row
conditions x =
    each (0x10 ∷ 0x20 ∷ 0x30 ∷ []) (λ table.
    each (1 ∷ 2 ∷ 3 ∷ []) (λ c.
    array_by (0x4000 + 0x100 * x + table + c) 5 condition ∷ []))

unfoldable pub tables : List Row
tables =
    each (1 ∷ 2 ∷ 3 ∷ 4 ∷ 5 ∷ 6 ∷ []) (λ z.
    -- "30z0h, 30z1h (VAR, z=1..6) | X source u8 0..6 = 0; number u8 0..15 = 0"
    var (0x3000 + 0x10 * z) source ∷
    var (0x3001 + 0x10 * z) number ∷
    -- "30z2h, 30z3h (VAR) | X, Y digits D"
    var (0x3002 + 0x10 * z) D ∷
    var (0x3003 + 0x10 * z) D ∷
    -- "30z4h:1-11 | :1 axis type u8 0..0 = 0; :2-11 response u8 0..2 = 1"
    array_by (0x3004 + 0x10 * z) 11 axis_or_response ∷
    -- "30z5h, 30z6h :1-11 | X, Y: i16 = 0, 100, .. 1000"
    array_by (0x3005 + 0x10 * z) 11 point ∷
    array_by (0x3006 + 0x10 * z) 11 point ∷ [])

unfoldable pub logics : List Row
logics =
    each (1 ∷ 2 ∷ []) (λ x.
    -- "4x01h:1-3 (x=1..2) | table for A, B, C: u8 1..6 = 1,2,3 and 4,5,6"
    array_by (0x4001 + 0x100 * x) 3 (λ sub. u8 1 6 (3 * (x - 1) + sub)) ∷
    -- "4x02h:1-3 | operator u8 0..4 = 1,1,0"
    array_by (0x4002 + 0x100 * x) 3 operator ∷
    -- "4x11h-13h, 21h-23h, 31h-33h :1-5 | condition"
    conditions x)

unfoldable pub maths : List Row
maths =
    each (6 ∷ 7 ∷ 8 ∷ 9 ∷ []) (λ y.
    -- "4y00h, 4y01h, 4y02h, 4y20h, 4y22h, 4y40h :1-4 (y=6..9 for math 1..4) | source 0..6 = 0, number 0..15 = 0, D, scaling 1, 2 i16 = 0, 1000, gain i16 -100..100 = 100"
    array (0x4000 + 0x100 * y) 4 source ∷
    array (0x4001 + 0x100 * y) 4 number ∷
    array (0x4002 + 0x100 * y) 4 D ∷
    array (0x4020 + 0x100 * y) 4 (i16 0) ∷
    array (0x4022 + 0x100 * y) 4 (i16 1000) ∷
    array (0x4040 + 0x100 * y) 4 (i16_between (negsuc 99) (pos 100) 100) ∷
    -- "4y50h:1-3 | operator u8 0..5 = 0"
    array (0x4050 + 0x100 * y) 3 (u8 0 5 0) ∷ [])

-- "Configuration entries", each row below its line in the paper
unfoldable pub configuration : List Row
configuration =
    -- "2502h:1-12, 2520h, 2522h | EC digits D; scaling 1, 2: i16 = 0, 1000"
    array 0x2502 12 D ∷ array 0x2520 12 (i16 0) ∷ array 0x2522 12 (i16 1000) ∷
    -- "6132h:1-4 | input digits D"
    array 0x6132 4 D ∷
    -- "7120h, 7121h, 7122h, 7123h :1-4 | FV1, PV1, FV2, PV2: i16 = 500, 0, 4500, 1000"
    array 0x7120 4 (i16 500) ∷ array 0x7121 4 (i16 0) ∷ array 0x7122 4 (i16 4500) ∷ array 0x7123 4 (i16 1000) ∷
    -- "7148h, 7149h :1-4 | span start, end: i16 = 0, 5000"
    array 0x7148 4 (i16 0) ∷ array 0x7149 4 (i16 5000) ∷
    -- "2110h, 2111h, 2112h :1-4 | detect u8 0..1 = 1; hysteresis i16 0..32767 = 100; delay u16 0..60000 ms = 1000"
    array 0x2110 4 (u8 0 1 1) ∷ array 0x2111 4 (i16_between (pos 0) (pos 32767) 100) ∷ array 0x2112 4 (u16 0 60000 1000) ∷
    -- 30z0h to 30z6h
    tables ++
    -- "4000h:1-2 | logic enable u8 0..1 = 0"
    array 0x4000 2 (u8 0 1 0) ∷
    -- 4x01h to 4x33h
    logics ++
    -- "4500h, 4521h, 4523h, 4532h :1-4 | math enable u8 0..1 = 0; scaling 1, 2 PV i16 = 0, 1000; digits D"
    array 0x4500 4 (u8 0 1 0) ∷ array 0x4521 4 (i16 0) ∷ array 0x4523 4 (i16 1000) ∷ array 0x4532 4 D ∷
    -- 4y00h to 4y50h
    maths ++
    -- "5010h:3-15 | constant REAL32, finite = 0"
    record { index = 0x5010; from = 3; to = 15; holds = λ sub. real32 0 } ∷
    -- "6302h, 7320h, 7322h, 7321h, 7323h :1-4 | D; PV1, PV2 i16 = 0, 1000; FV1, FV2 i16 0..2500 mA = 0, 1500"
    array 0x6302 4 D ∷ array 0x7320 4 (i16 0) ∷ array 0x7322 4 (i16 1000) ∷
    array 0x7321 4 (i16_between (pos 0) (pos 2500) 0) ∷ array 0x7323 4 (i16_between (pos 0) (pos 2500) 1500) ∷
    -- "6340h, 7341h, 2300h :1-4 | fault mode u8 0..1 = 1; fault FV, override FV i16 0..2500 = 0, 2000"
    array 0x6340 4 (u8 0 1 1) ∷ array 0x7341 4 (i16_between (pos 0) (pos 2500) 0) ∷ array 0x2300 4 (i16_between (pos 0) (pos 2500) 2000) ∷
    -- "2330h, 2331h :1-4 | ramp up, down u16 0..60000 ms = 1000"
    array 0x2330 4 (u16 0 60000 1000) ∷ array 0x2331 4 (u16 0 60000 1000) ∷
    -- "2340h, 2341h, 2350h, 2351h, 2352h, 2360h, 2361h, 2362h :1-4 | control, enable, override: source 0..6, number 0..15, and response 0..1 for the last two; u8 = 0"
    array 0x2340 4 source ∷ array 0x2341 4 number ∷
    array 0x2350 4 source ∷ array 0x2351 4 number ∷ array 0x2352 4 (u8 0 1 0) ∷
    array 0x2360 4 source ∷ array 0x2361 4 number ∷ array 0x2362 4 (u8 0 1 0) ∷ []

-- "2500h:1-12 EC value (i16, writable)"
unfoldable pub received : List Row
received = array 0x2500 12 (i16 0) ∷ []

-- 1003h:0 (document 02, viii): "Sub 0 (u8, 0 at start) is the number kept ..; unlike other arrays' it can be written"
unfoldable pub cleared : List Row
cleared = var 0x1003 (u8 0 255 0) ∷ []

-- "read only 1001h (VAR u8), 7100h and 7130h:1-4, 30z7h (VAR), 4010h (u8) and 4020h:1-2, 4530h:1-4 (REAL32), 7330h:1-4 (others i16), 5010h:1 (0.0) and :2 (1.0)";
-- 1003h:1-8 (document 02, viii): "the last 8 flaggings .., newest at sub 1, as DS-301 lays them out"
unfoldable pub read_only : List Row
read_only =
    var 0x1001 (u8 0 255 0) ∷
    array 0x7100 4 (i16 0) ∷ array 0x7130 4 (i16 0) ∷
    each (1 ∷ 2 ∷ 3 ∷ 4 ∷ 5 ∷ 6 ∷ []) (λ z. var (0x3007 + 0x10 * z) (i16 0) ∷ []) ++
    array 0x4010 2 (u8 0 255 0) ∷ array 0x4020 2 (i16 0) ∷
    array 0x4530 4 (real32 0) ∷ array 0x7330 4 (i16 0) ∷
    array_by 0x5010 2 (λ sub. real32 (first (eqb sub 2) 0x3F800000 0)) ∷
    array 0x1003 8 (u32 0) ∷ []
