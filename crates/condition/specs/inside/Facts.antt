-- What the code tells of a condition, since it makes no tree: not needed to read the promises.
use Rattle.std.specs.Prelude.{ℕ, ◌+◌, Bool, true, false, not, ◌&&◌, ◌||◌, eqb}
use Rattle.condition.specs.Cond.{Cond, inp, neg, conj, disj, eval, word_count}
use Rattle.condition.specs.Reading.{Counted}
use Rattle.condition.specs.declared.Form.{Form}
use Rattle.condition.specs.declared.Form.TheVariants.{Other, On, Off, Gated}
use Rattle.condition.specs.declared.Operator.{Operator}
use Rattle.condition.specs.declared.Operator.TheVariants.{Not, And, Or}
use Rattle.condition.specs.declared.Facts.{Facts}

-- the form where the test holds
abbrev pub pick_form : Bool → Form → Form
pick_form true f = f
pick_form false f = Other

-- whether it is input 0, the form that the other two ask for
abbrev pub is_form_on : Form → Bool
is_form_on Other = false
is_form_on On = true
is_form_on Off = false
is_form_on Gated = false

-- the forms that HOME-FORM and GATE ask for: input 0; NOT input 0; an AND whose first operand is input 0
unfoldable pub form_of : Cond → Form
form_of (inp i) = pick_form (eqb i 0) On
form_of (neg c) = pick_form (is_form_on (form_of c)) Off
form_of (conj a b) = pick_form (is_form_on (form_of a)) Gated
form_of (disj a b) = Other

-- the tag of an operator: "01 NOT with one operand; 10 AND with two; 11 OR with two"
abbrev pub tag_of : Operator → ℕ
tag_of Not = 1
tag_of And = 2
tag_of Or = 3

-- what the code says of a condition, which makes no trees: the nodes so far, its value, its form and its words
abbrev pub facts_of : ℕ → Counted → Facts
facts_of word t = record { nodes = t.count; value = eval word t.tree; form = form_of t.tree; words = word_count t.tree }

-- the facts of a node from those of its operands
abbrev pub neg_facts : Facts → Facts
neg_facts f = record { nodes = f.nodes; value = not f.value; form = pick_form (is_form_on f.form) Off; words = f.words + 1 }

abbrev pub pick_value : Bool → Bool → Bool → Bool
pick_value true a b = a
pick_value false a b = b

-- AND where `and` holds, else OR
abbrev pub join_facts : Bool → Facts → Facts → Facts
join_facts and f g =
    record {
      nodes = g.nodes;
      value = pick_value and (f.value && g.value) (f.value || g.value);
      form = pick_form (and && is_form_on f.form) Gated;
      words = f.words + g.words + 2;
    }
