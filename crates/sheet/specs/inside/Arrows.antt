-- The rules 7 to 13 over the decoded arrows and rows, as the code tests them: not needed to read the promises.
use Rattle.std.specs.Prelude.{ℕ, ◌+◌, ◌*◌, ◌<◌, ◌≡◌, Bool, true, false, not, ◌&&◌, List, length, position, get_or}
use Rattle.std.specs.Prelude.{ltb, eqb, Ok}
use Rattle.answer.specs.declared.Refusal.{Refusal}
use Rattle.answer.specs.declared.Refusal.TheVariants.{Loop, Pair, Rank, NoHome, HomeForm, Gate, Activity}
use Rattle.std.specs.declared.option.Option.{Option}
use Rattle.answer.specs.Checked.{Checked}
use Rattle.answer.specs.Lowest.{any_below, first_below, refuse_at}
use Rattle.bits.specs.Word.{get_bit}
use Rattle.condition.specs.declared.Form.{Form}
use Rattle.condition.specs.declared.Form.TheVariants.{Other, On, Off, Gated}
use Rattle.reader.specs.declared.Arrow.{Arrow}
use Rattle.reader.specs.inside.Packing.{unpack, arrow_at}
use Rattle.sheet.specs.declared.Rule.{Rule}
use Rattle.sheet.specs.declared.Rule.TheVariants as rule
use Rattle.sheet.specs.declared.Clash.{Clash}
use Rattle.sheet.specs.declared.Clash.TheVariants as clash
use Rattle.sheet.specs.Judging.{differs}

-- NOT input 0
abbrev pub is_form_off : Form → Bool
is_form_off Other = false
is_form_off On = false
is_form_off Off = true
is_form_off Gated = false

-- input 0, or an AND whose first operand is input 0
abbrev pub is_form_gated : Form → Bool
is_form_gated Other = false
is_form_gated On = true
is_form_gated Off = false
is_form_gated Gated = true

-- 7 LOOP, 11 HOME-FORM and 12 GATE of an arrow
abbrev pub breaks_arrow : Rule → Arrow → Bool
breaks_arrow rule.Loop t = eqb t.source t.destination
breaks_arrow rule.HomeForm t = eqb t.destination 0 && not (eqb t.priority 0 && eqb t.wait 0 && is_form_off t.form)
breaks_arrow rule.Gate t = eqb t.source 0 && not (is_form_gated t.form)

-- the lowest arrow that breaks the rule
abbrev pub first_break : Rule → List ℕ → Option ℕ
first_break r arrows = position (λ w. breaks_arrow r (unpack w)) arrows

-- what must be equal besides the sources: 8 PAIR the destinations, 9 RANK the priorities
abbrev pub besides : Clash → Arrow → ℕ
besides clash.Pair t = t.destination
besides clash.Rank t = t.priority

abbrev pub clash_arrows : Clash → Arrow → Arrow → Bool
clash_arrows c t u = eqb t.source u.source && eqb (besides c t) (besides c u)

-- arrow `later` clashes with some arrow before `earlier`
abbrev pub clash_below : Clash → List ℕ → ℕ → ℕ → Bool
clash_below c arrows later earlier = any_below (λ i. clash_arrows c (arrow_at arrows i) (arrow_at arrows later)) earlier

-- the lowest arrow that clashes with an earlier one
unfoldable pub first_clash : Clash → List ℕ → Option ℕ
first_clash c arrows = first_below (λ later. clash_below c arrows later later) (length arrows)

-- both in one number
abbrev pub key_of : Clash → Arrow → ℕ
key_of c t = t.source * 256 + besides c t

-- the first m keys
abbrev pub Keys : Clash → List ℕ → ℕ → List ℕ → Type 0
Keys c arrows m keys = (i : ℕ) → i < m → get_or keys i 0 ≡ key_of c (arrow_at arrows i)

-- the key of `later` is that of some arrow before `earlier`
abbrev pub alike_below : List ℕ → ℕ → ℕ → Bool
alike_below keys later earlier = any_below (λ i. eqb (get_or keys i 0) (get_or keys later 0)) earlier

-- the lowest arrow with the key of an earlier one
unfoldable pub first_alike : List ℕ → Option ℕ
first_alike keys = first_below (λ later. alike_below keys later later) (length keys)

abbrev pub home_arrow : ℕ → Arrow → Bool
home_arrow s t = eqb t.source s && eqb t.destination 0

-- one of the m arrows goes from state s to 0
unfoldable pub has_home : List ℕ → ℕ → ℕ → Bool
has_home arrows m s = any_below (λ i. home_arrow s (arrow_at arrows i)) m

-- bit s of the word says so
abbrev pub Homes : List ℕ → ℕ → ℕ → Type 0
Homes arrows m word = (s : ℕ) → s < 32 → get_bit word s ≡ has_home arrows m s

abbrev pub lacks_home_arrow : List ℕ → ℕ → Bool
lacks_home_arrow arrows s = ltb 0 s && not (has_home arrows (length arrows) s)

-- the same by that word
abbrev pub lacks_bit : ℕ → ℕ → Bool
lacks_bit word s = ltb 0 s && not (get_bit word s)

abbrev pub activity_row : List ℕ → ℕ → Bool
activity_row rows s = differs (get_bit (get_or rows s 0) 0) (eqb s 0)

-- what was found is refused as `why` says, which answers as a function does; where nothing was found it is accepted
abbrev pub Refuses : (ℕ → Refusal → Type 0) → Option ℕ → Checked → Type 0
Refuses why found r = (f : ℕ → Refusal) → ((i : ℕ) (q : Refusal) → why i q → q ≡ f i) → r ≡ refuse_at f found (Ok tt)

-- the numbers 7 to 13 of n states
unfoldable pub judge_arrows : List ℕ → List ℕ → ℕ → Checked
judge_arrows arrows rows n =
    let thirteen = refuse_at Activity (first_below (activity_row rows) (length rows)) (Ok tt) in
    let twelve = refuse_at Gate (first_break rule.Gate arrows) thirteen in
    let eleven = refuse_at HomeForm (first_break rule.HomeForm arrows) twelve in
    let ten = refuse_at NoHome (first_below (lacks_home_arrow arrows) n) eleven in
    let nine = refuse_at Rank (first_clash clash.Rank arrows) ten in
    let eight = refuse_at Pair (first_clash clash.Pair arrows) nine in
    refuse_at Loop (first_break rule.Loop arrows) eight
