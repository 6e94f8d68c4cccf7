use borrow.Author.Tests.{eq-eqb, ne_eqb}
use Rattle.cells.specs.Read.{leaf_of}
use Rattle.cells.proofs.Leaves.{part-is, prefix-is, octet-is}
use Rattle.print.specs.Json.{leaf_text}
use Rattle.print.proofs.leaf.put_leaf.Goals as goal

pub returns-then-kind-eq-NUMBER : goal.returns-then-kind-eq-NUMBER
unfolding leaf_of leaf_text
returns-then-kind-eq-NUMBER c = simp (eq-eqb _ _ c.if-kind-eq-NUMBER.true) c.put_decimal.ensures

pub returns-then-kind-eq-FLAG : goal.returns-then-kind-eq-FLAG
unfolding leaf_of leaf_text
returns-then-kind-eq-FLAG c = simp (ne_eqb _ _ c.if-kind-eq-NUMBER.false, eq-eqb _ _ c.if-kind-eq-FLAG.true) c.put_flag.ensures

pub put_part-requires : goal.put_part-requires
put_part-requires c = part-is _ _ _ (rw c.if-kind-eq-PART.true at c.requires)

pub returns-then-kind-eq-PART : goal.returns-then-kind-eq-PART
unfolding leaf_of leaf_text
returns-then-kind-eq-PART c =
    simp (ne_eqb _ _ c.if-kind-eq-NUMBER.false, ne_eqb _ _ c.if-kind-eq-FLAG.false, eq-eqb _ _ c.if-kind-eq-PART.true) c.put_part.ensures

pub returns-then-kind-eq-TEXT : goal.returns-then-kind-eq-TEXT
unfolding leaf_of leaf_text
returns-then-kind-eq-TEXT c =
    simp (ne_eqb _ _ c.if-kind-eq-NUMBER.false, ne_eqb _ _ c.if-kind-eq-FLAG.false, ne_eqb _ _ c.if-kind-eq-PART.false, eq-eqb _ _ c.if-kind-eq-TEXT.true) c.put_quoted_text.ensures

pub put_prefix-requires : goal.put_prefix-requires
put_prefix-requires c = (prefix-is _ _ _ (rw c.if-kind-eq-PREFIX.true at c.requires)).1

pub returns-then-kind-eq-PREFIX : goal.returns-then-kind-eq-PREFIX
unfolding leaf_of leaf_text
returns-then-kind-eq-PREFIX c =
    simp (ne_eqb _ _ c.if-kind-eq-NUMBER.false, ne_eqb _ _ c.if-kind-eq-FLAG.false, ne_eqb _ _ c.if-kind-eq-PART.false, ne_eqb _ _ c.if-kind-eq-TEXT.false, eq-eqb _ _ c.if-kind-eq-PREFIX.true) c.put_prefix.ensures

pub overflow_cast-v-then-kind-eq-OCTET : goal.overflow_cast-v-then-kind-eq-OCTET
overflow_cast-v-then-kind-eq-OCTET c = record { fits = (octet-is _ _ _ (rw c.if-kind-eq-OCTET.true at c.requires)).1 }

pub returns-then-kind-eq-OCTET : goal.returns-then-kind-eq-OCTET
unfolding leaf_of leaf_text
returns-then-kind-eq-OCTET c =
    simp (ne_eqb _ _ c.if-kind-eq-NUMBER.false, ne_eqb _ _ c.if-kind-eq-FLAG.false, ne_eqb _ _ c.if-kind-eq-PART.false, ne_eqb _ _ c.if-kind-eq-TEXT.false, ne_eqb _ _ c.if-kind-eq-PREFIX.false, eq-eqb _ _ c.if-kind-eq-OCTET.true) c.put_quoted_octet.ensures

pub returns : goal.returns
unfolding leaf_of leaf_text
returns c =
    simp (ne_eqb _ _ c.if-kind-eq-NUMBER.false, ne_eqb _ _ c.if-kind-eq-FLAG.false, ne_eqb _ _ c.if-kind-eq-PART.false, ne_eqb _ _ c.if-kind-eq-TEXT.false, ne_eqb _ _ c.if-kind-eq-PREFIX.false, ne_eqb _ _ c.if-kind-eq-OCTET.false) c.put_word.ensures
