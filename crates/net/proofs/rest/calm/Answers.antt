-- A box is calm where it is at its place, owes nothing and agrees with every box.
use Rattle.std.proofs.Common.{◌≡◌, ℕ, Bool, true, false, not, length, sym, refl, ap, ◌∙◌, inl, inr, arith, rules, tests}
use Rattle.std.proofs.lemmas.Iterator.{YieldsList-from_range, YieldsList-from_slice, YieldsList-from_zip}
use Rattle.std.proofs.lemmas.Iterator.Consumers.{YieldsList-at}
use Rattle.std.proofs.lemmas.Iterator.Search.{all_from_yields_List}
use Rattle.std.proofs.lemmas.Bool.{both_ways, eqb-true, eq-eqb}
use Rattle.model.specs.Promise.{all_below}
use Rattle.linkmodel.specs.Station.{Station as Whole}
use Rattle.router.specs.State.{box_of}
use Rattle.node.specs.State.{whole_of}
use Rattle.node.specs.declared.state.Node.{Node}
use Rattle.net.specs.Nets.{agrees_with, box_in, calm_at}
use Rattle.net.proofs.Alls.{all_listed, all_zipped}
use Rattle.net.proofs.Calm.{box_read, calm_misplaced, placed, calm_owes, calm_when}
use Rattle.net.proofs.Wholes.{whole_get}
use Rattle.net.proofs.rest.calm.Goals as goal
use Rattle.net.proofs.rest.calm.Goals.{then-boxes-n, else-boxes-n, then-box_number-a, else-box_number-a}

not_false : (b : Bool) → not b ≡ true → b ≡ false
not_false true h = sym h
not_false false h = refl

not_true : (b : Bool) → not b ≡ false → b ≡ true
not_true true h = refl
not_true false h = sym h

pub returns-then-not-owes : goal.returns-then-not-owes
returns-then-not-owes c =
    let ss = c.args.boxes.now in
    let a = c.args.a in
    let n = length ss in
    let s = box_of c.router-one.result in
    let one : box_in ss c.args.a ≡ s = box_read ss c.args.a c.index-boxes-a.result c.requires.0 c.index-boxes-a.is ∙ sym c.router-one.ensures in
    let agrees : ℕ → Bool = λ e. agrees_with n (box_in ss a) a (box_in ss e) e in
    let agree : ℕ × Node → Bool = λ p. agrees_with n s a (whole_of p.1).box p.0 in
    let all : c.all.result ≡ all_below n agrees =
    all_from_yields_List agree c.all.new.self _ c.all.result c.all.ensures.ran (YieldsList-from_zip (YieldsList-at c.zip.ensures.first (YieldsList-from_range 0 n n refl (omega arith))) (YieldsList-from_slice ss c.zip.ensures.second.0)) (λ p b q k. search (rules, tests))
    ∙ all_zipped 0 ss agree agrees (λ i x d e l. let at : x ≡ i = omega (arith, e) in λ j. agrees_with n (sym one j) a (sym (ap (box_in ss) at ∙ ap (λ (w : Whole). w.box) (whole_get ss i d l)) j) x)
    ∙ all_listed n agrees in
    elim c.if-box_number-a.branch [
      | then-box_number-a w ↦ elim c.if-boxes-n.branch [
        | then-boxes-n v ↦ all ∙ sym (calm_when ss a s one (placed ss a s one (sym c.boxes.ensures ∙ v.if-boxes-n.true) (sym v.box_number.ensures ∙ eqb-true v.box_number.result a (sym v.value-is ∙ w.if-box_number-a.true))) (sym w.owes.ensures ∙ not_false w.owes.result (sym w.value-is ∙ c.if-not-owes.true)))
        | else-boxes-n v ↦ absurd (v.if-boxes-n.false (eqb-true c.boxes.result n (sym v.value-is ∙ w.if-box_number-a.true)))
      ]
      | else-box_number-a w ↦ absurd (both_ways c.if-boxes-n.value w.if-box_number-a.false (sym w.value-is ∙ c.if-not-owes.true))
    ]

pub returns-else-not-owes : goal.returns-else-not-owes
returns-else-not-owes c =
    let ss = c.args.boxes.now in
    let s = box_of c.router-one.result in
    let one : box_in ss c.args.a ≡ s = box_read ss c.args.a c.index-boxes-a.result c.requires.0 c.index-boxes-a.is ∙ sym c.router-one.ensures in
    let no : calm_at ss c.args.a ≡ false =
    elim c.if-box_number-a.branch [
      | then-box_number-a w ↦ calm_owes ss c.args.a s one (sym w.owes.ensures ∙ not_true w.owes.result (sym w.value-is ∙ c.if-not-owes.false))
      | else-box_number-a w ↦ elim c.if-boxes-n.branch [
        | then-boxes-n v ↦ calm_misplaced ss c.args.a s one (inr (λ e. both_ways c.if-boxes-n.value w.if-box_number-a.false (v.value-is ∙ eq-eqb v.box_number.result c.args.a (v.box_number.ensures ∙ e))))
        | else-boxes-n v ↦ calm_misplaced ss c.args.a s one (inl (λ e. v.if-boxes-n.false (c.boxes.ensures ∙ e)))
      ]
    ] in
    c.if-not-owes.false ∙ sym no
