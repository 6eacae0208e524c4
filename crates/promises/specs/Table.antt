-- "Sheets and scans worked by hand": P1 to P14 and the two lines behind them, in one table; what is said of scans is said of the reference, from
-- the sheet's bytes, and of the runner, from the code's bytes. P1 to P10 stand with the check of sheets, and are a part of this table.
use Rattle.std.specs.Prelude.{◌≡◌, Bool, true, false, List, [], ◌∷◌, ℕ, ◌+◌, ◌*◌, length, replicate, Ok}
use Rattle.bits.specs.Read.{ok}
use Rattle.condition.specs.Cond.{Cond, inp, neg, conj, disj}
use Rattle.reader.specs.Sheet.{Transition, Sheet, count}
use Rattle.reader.specs.Reading.{read_sheet}
use Rattle.sheet.specs.Judging.{check_sheet}
use Rattle.sheet.specs.Table as sheets
use Rattle.sheet.specs.Table.{sheet_m}
use Rattle.scan.specs.declared.State.{State}
use Rattle.scan.specs.Scan.{state_with, scan_sheet, cold_scan}
use Rattle.machine.specs.declared.Record.{Record}
use Rattle.words.specs.Worked.{bytes, code11}
use Rattle.machine.specs.Run.{record_with, run_code}
use Rattle.translate.specs.Translation.{translate}
use Rattle.translate.specs.Writing.{code_of, translate_into, cold_run}
use Rattle.refusals.specs.Refusals.{Numbered}
use Rattle.same.specs.Histories.{Tick}

-- "The two-contact sheet": its bytes
unfoldable pub two_contact : List ℕ
two_contact =
    0x41 ∷ 0x19 ∷ 0x88 ∷ 0x44 ∷ 0x45 ∷ 0x54 ∷ 0x56 ∷ 0x08 ∷ 0x00 ∷ 0x00 ∷ 0x00 ∷ 0x00 ∷ 0x20 ∷ 0x08 ∷ 0x00 ∷ 0x00 ∷ 0x00 ∷ 0x00 ∷ 0x10 ∷ 0x06 ∷ 0x00 ∷ 0x00 ∷ 0x00 ∷ 0x00
    ∷ 0x08 ∷ 0x04 ∷ 0x00 ∷ 0x00 ∷ 0x00 ∷ 0x00 ∷ 0x04 ∷ 0x02 ∷ 0x80 ∷ 0x00 ∷ 0x00 ∷ 0x00 ∷ 0x02 ∷ 0x01 ∷ 0x80 ∷ 0x00 ∷ 0x00 ∷ 0x00 ∷ 0x01 ∷ 0x00 ∷ 0xE0 ∷ 0x00 ∷ 0x00 ∷ 0x00
    ∷ 0x00 ∷ 0x80 ∷ 0x80 ∷ 0x00 ∷ 0x00 ∷ 0x00 ∷ 0x00 ∷ 0x40 ∷ 0x00 ∷ 0x40 ∷ 0x00 ∷ 0x00 ∷ 0x00 ∷ 0x00 ∷ 0x14 ∷ 0x01 ∷ 0x00 ∷ 0x00 ∷ 0x00 ∷ 0x81 ∷ 0x08 ∷ 0x22 ∷ 0x04 ∷ 0x00
    ∷ 0x00 ∷ 0x00 ∷ 0x10 ∷ 0x46 ∷ 0x0C ∷ 0x00 ∷ 0x00 ∷ 0x00 ∷ 0x11 ∷ 0x10 ∷ 0x08 ∷ 0x00 ∷ 0x03 ∷ 0x20 ∷ 0x02 ∷ 0x08 ∷ 0x20 ∷ 0x00 ∷ 0x00 ∷ 0x04 ∷ 0x21 ∷ 0x20 ∷ 0x18 ∷ 0x00
    ∷ 0x00 ∷ 0x00 ∷ 0x23 ∷ 0x28 ∷ 0x10 ∷ 0x00 ∷ 0x06 ∷ 0x40 ∷ 0x06 ∷ 0x10 ∷ 0x40 ∷ 0x00 ∷ 0x00 ∷ 0x08 ∷ 0x23 ∷ 0x40 ∷ 0x30 ∷ 0x00 ∷ 0x00 ∷ 0x00 ∷ 0x88 ∷ 0x10 ∷ 0x20 ∷ 0x00
    ∷ 0x00 ∷ 0x0E ∷ 0x08 ∷ 0x45 ∷ 0x08 ∷ 0x10 ∷ 0x00 ∷ 0x00 ∷ 0x07 ∷ 0x04 ∷ 0x23 ∷ 0x84 ∷ 0x08 ∷ 0x00 ∷ 0x00 ∷ 0x03 ∷ 0x82 ∷ 0x11 ∷ 0x8E ∷ 0x04 ∷ 0x00 ∷ 0x01 ∷ 0x90 ∷ 0x03
    ∷ 0x04 ∷ 0x10 ∷ 0x00 ∷ 0x00 ∷ 0x03 ∷ 0x82 ∷ 0x12 ∷ 0x02 ∷ 0x04 ∷ 0x00 ∷ 0x00 ∷ 0x01 ∷ 0xC1 ∷ 0x09 ∷ 0x06 ∷ 0x04 ∷ 0x00 ∷ 0x00 ∷ 0x00 ∷ 0xC0 ∷ 0x84
    ∷ []

-- and what they say. "Inputs: 0 Activate, 1 A, 2 B."
abbrev pub off : Cond
off = neg (inp 0)

abbrev pub A : Cond
A = inp 1

abbrev pub B : Cond
B = inp 2

-- a transition from one state to another with a priority, a wait and a condition
abbrev pub arc : ℕ → ℕ → ℕ → ℕ → Cond → Transition
arc from to priority wait condition = record { source = from; destination = to; priority = priority; wait = wait; condition = condition }

-- "Outputs: 0 activity, 1 Ready, 2 EquivalentOut, 3 Error. States and the outputs true in them: 0 Idle (0); 1 Init (1); 2 Wait for A (1); 3 Wait
-- for B (1); 4 Error 1 (1, 3); 5 Error 2 (1, 3); 6 From Active Wait (1); 7 Error 3 (1, 3); 8 Enabled (1, 2)."
unfoldable pub two_rows : List (List Bool)
two_rows =
    (true ∷ false ∷ false ∷ false ∷ [])
    ∷ (false ∷ true ∷ false ∷ false ∷ [])
    ∷ (false ∷ true ∷ false ∷ false ∷ [])
    ∷ (false ∷ true ∷ false ∷ false ∷ [])
    ∷ (false ∷ true ∷ false ∷ true ∷ [])
    ∷ (false ∷ true ∷ false ∷ true ∷ [])
    ∷ (false ∷ true ∷ false ∷ false ∷ [])
    ∷ (false ∷ true ∷ false ∷ true ∷ [])
    ∷ (false ∷ true ∷ true ∷ false ∷ [])
    ∷ []

-- "Each of 1 to 8 goes home by NOT Activate, priority 0. Others, with priorities: 0 to 1 Activate (0). 1 to 8 A AND B (1), to 2 B (2), to 3 A (3).
-- 2 to 4 Activate, wait 100 (1), to 1 NOT B (2), to 8 A (3). 3 to 5 Activate, wait 100 (1), to 1 NOT A (2), to 8 B (3). 4, 5 and 7 to 1
-- NOT (A OR B) (1). 6 to 7 Activate, wait 100 (1), to 1 NOT (A OR B) (2). 8 to 1 NOT (A OR B) (1), to 6 NOT (A AND B) (2)."
unfoldable pub two_arcs : List Transition
two_arcs =
    arc 1 0 0 0 off
    ∷ arc 2 0 0 0 off
    ∷ arc 3 0 0 0 off
    ∷ arc 4 0 0 0 off
    ∷ arc 5 0 0 0 off
    ∷ arc 6 0 0 0 off
    ∷ arc 7 0 0 0 off
    ∷ arc 8 0 0 0 off
    ∷ arc 0 1 0 0 (inp 0)
    ∷ arc 1 8 1 0 (conj A B)
    ∷ arc 1 2 2 0 B
    ∷ arc 1 3 3 0 A
    ∷ arc 2 4 1 100 (inp 0)
    ∷ arc 2 1 2 0 (neg B)
    ∷ arc 2 8 3 0 A
    ∷ arc 3 5 1 100 (inp 0)
    ∷ arc 3 1 2 0 (neg A)
    ∷ arc 3 8 3 0 B
    ∷ arc 4 1 1 0 (neg (disj A B))
    ∷ arc 5 1 1 0 (neg (disj A B))
    ∷ arc 7 1 1 0 (neg (disj A B))
    ∷ arc 6 7 1 100 (inp 0)
    ∷ arc 6 1 2 0 (neg (disj A B))
    ∷ arc 8 1 1 0 (neg (disj A B))
    ∷ arc 8 6 2 0 (neg (conj A B))
    ∷ []

unfoldable pub two_sheet : Sheet
two_sheet = record { states = 9; inputs = 3; outputs = 4; rows = two_rows; transitions = two_arcs }

-- "scans as Activate A B/ms"
abbrev pub brings : ℕ → ℕ → ℕ → ℕ → Tick
brings activate a b ms = record { word = activate + 2 * a + 4 * b; elapsed = ms }

-- the records after each of some scans in order: of the reference, and of the runner
unfoldable pub scans : List ℕ → State → List Tick → List State
scans s q [] = []
scans s q (t ∷ ts) = let next = (scan_sheet s q t.word t.elapsed).«record» in next ∷ scans s next ts

unfoldable pub runs : List ℕ → Record → List Tick → List Record
runs code r [] = []
runs code r (t ∷ ts) = let next = (run_code code r t.word t.elapsed).«record» in next ∷ runs code next ts

-- a state with its outputs and the clock; and the same with the state's flag
abbrev pub state : ℕ → ℕ → ℕ → State
state n outputs clock = state_with n outputs clock

abbrev pub flag : ℕ → ℕ → ℕ → Record
flag word outputs clock = record_with word outputs clock

-- one scan gives this, accepted
abbrev pub Gives : State → Record → Tick → State → Record → Type 0
Gives q r t p u =
    (scan_sheet two_contact q t.word t.elapsed ≡ record { verdict = Ok tt; «record» = p })
    × (run_code (code_of two_sheet) r t.word t.elapsed ≡ record { verdict = Ok tt; «record» = u })

pub record Table : Type 0 where
  -- P1 to P10 are its rows `p1` to `p10`: "P1: no bytes: 1 at 0. P2: 00: 2 at 0. P3: M is accepted. P4: M with last byte 81: 6 at 71. P5: M and a
  -- tenth byte 00: 6 at 71. P6: the first eight bytes of M: 1 at 63. P7: M with byte 3 as 40: 3 at 22. P8: byte 3 as 00: 7 at 0. P9: M with byte 2 as
  -- 00: 13 at 0. P10: last byte 82: 4 at 67."
  pub sheets : sheets.Table
  -- "P3: M is accepted, 71 bits."
  pub p3_bits : (a : Sheet) × (read_sheet (sheet_m 0x08 0x20 0x80) ≡ ok a 71)
  -- "P11: M gives 16 words: .. With 63 bytes of room: 14, place 64."
  pub p11 : translate_into (sheet_m 0x08 0x20 0x80) (replicate 64 0xFF)
      ≡ record { answer = record { verdict = Ok tt; length = 64 }; buffer = bytes code11 }
  pub p11_room : Numbered (translate_into (sheet_m 0x08 0x20 0x80) (replicate 63 0xFF)).answer.verdict 14 64
  pub p11_untouched : (translate_into (sheet_m 0x08 0x20 0x80) (replicate 63 0xFF)).buffer ≡ replicate 63 0xFF
  -- the two-contact sheet: "25 transitions, 1,319 bits, 165 bytes and 271 words of code"
  pub two_read : read_sheet two_contact ≡ ok two_sheet 1319
  pub two_accepted : check_sheet two_contact ≡ Ok tt
  pub two_sizes : (count two_sheet ≡ 25) × (length two_contact ≡ 165) × (length (translate two_sheet) ≡ 271)
  -- "P12: two-contact sheet from cold, scans as Activate A B/ms: 100/10 gives state 1; 110/10 state 3; 110/99 state 3, clock 99; 110/1 state 5,
  -- clock 0; 111/10 state 5, clock 10; 100/10 state 1; 111/10 state 8; 011/5 state 0."
  pub p12 :
      scans two_contact (cold_scan two_contact).«record» (
      brings 1 0 0 10 ∷ brings 1 1 0 10 ∷ brings 1 1 0 99 ∷ brings 1 1 0 1 ∷ brings 1 1 1 10 ∷ brings 1 0 0 10 ∷ brings 1 1 1 10 ∷ brings 0 1 1 5 ∷ []
      )
      ≡ state 1 2 0 ∷ state 3 2 0 ∷ state 3 2 99 ∷ state 5 10 0 ∷ state 5 10 10 ∷ state 1 2 0 ∷ state 8 6 0 ∷ state 0 1 0 ∷ []
  pub p12_code :
      runs (code_of two_sheet) (cold_run two_contact).«record» (
      brings 1 0 0 10 ∷ brings 1 1 0 10 ∷ brings 1 1 0 99 ∷ brings 1 1 0 1 ∷ brings 1 1 1 10 ∷ brings 1 0 0 10 ∷ brings 1 1 1 10 ∷ brings 0 1 1 5 ∷ []
      )
      ≡ flag 2 2 0 ∷ flag 8 2 0 ∷ flag 8 2 99 ∷ flag 32 10 0 ∷ flag 32 10 10 ∷ flag 2 2 0 ∷ flag 256 6 0 ∷ flag 1 1 0 ∷ []
  -- "P13: from state 3 with clock 99, 111/1 gives 5. P14: from state 3 with clock 99, 111/0 gives 8."
  pub p13 : Gives (state 3 2 99) (flag 8 2 99) (brings 1 1 1 1) (state 5 10 0) (flag 32 10 0)
  pub p14 : Gives (state 3 2 99) (flag 8 2 99) (brings 1 1 1 0) (state 8 6 0) (flag 256 6 0)
  -- "From cold, 111/10 gives state 1 and not 8."
  pub cold_all : Gives (state 0 1 0) (flag 1 1 0) (brings 1 1 1 10) (state 1 2 0) (flag 2 2 0)
  pub cold_is : ((cold_scan two_contact).«record» ≡ state 0 1 0) × ((cold_run two_contact).«record» ≡ flag 1 1 0)
  -- "In state 0, 011/50 stays and the clock reads 50 more."
  pub idle : Gives (state 0 1 7) (flag 1 1 7) (brings 0 1 1 50) (state 0 1 57) (flag 1 1 57)
