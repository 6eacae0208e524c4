-- P11's code run by hand. Words are written in hex, as the paper writes them.
use Rattle.std.specs.Prelude.{◌≡◌, refl, [], ◌∷◌, map, Ok, Err}
use Rattle.answer.specs.declared.Refusal.TheVariants as refuse
use Rattle.bits.specs.Word.{get_bit, put_bit}
use Rattle.words.specs.Word.{code_no, operand, word_no, known, decode, bytes_of, words}
use Rattle.words.specs.Worked.{bytes, code11}
use Rattle.faults.specs.Check.{end_fault, opens, faulty, unknown, first_fault, depth_at, lands_open, first_landing, check_code}
use Rattle.faults.specs.Worked.{answer, inside}
use Rattle.machine.specs.Machine.{flag_to, out_to, exec, run_scan}
use Rattle.machine.specs.Run.{record_with, mach_of, run_code}

-- P11's code passes; from state 1 it goes home where input 0 is off, and else stays, with the clock brought forward; refused code hands the
-- record back
pub runs :
    (answer code11 ≡ 0 ∷ 0 ∷ [])
    × (run_code (bytes code11) (record_with 2 0 5) 0 7 ≡ record { verdict = (Ok tt); «record» = record_with 1 1 0 })
    × (run_code (bytes code11) (record_with 2 0 5) 1 50 ≡ record { verdict = (Ok tt); «record» = record_with 2 0 55 })
    × (run_code (bytes code11) (record_with 1 1 16777000) 1 4294967295 ≡ record { verdict = (Ok tt); «record» = record_with 1 1 16777215 })
    × (run_code (bytes inside) (record_with 2 0 5) 1 50 ≡ record { verdict = Err (refuse.Landing 1); «record» = record_with 2 0 5 })
    × ((run_scan (map decode code11) (mach_of (record_with 2 0 5)) 0 7).ran ≡ 12)
unfolding bytes bytes_of answer code11 inside words decode known word_no code_no operand end_fault opens faulty unknown first_fault depth_at lands_open
    first_landing check_code run_code run_scan exec flag_to out_to get_bit put_bit
runs = (refl, refl, refl, refl, refl, refl)
