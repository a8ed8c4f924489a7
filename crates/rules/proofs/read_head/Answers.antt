-- `rules::read_head` meets its contract: each return hands the tests that led to it to a law of heads.
use mathlib.Core.Path.{sym, ◌∙◌}
use Rattle.rules.proofs.Heads.{rule-is, high, chosen-rule, no_code_lem, high-code, other-kind, plain-head, no-choice, choosing-head}
use Rattle.rules.proofs.read_head.Goals as goal

pub returns-in_default : goal.returns-in_default
returns-in_default c = no_code_lem _ _ _ c.in_default.ensures.lookup.3

pub returns-in_default-with_code : goal.returns-in_default-with_code
returns-in_default-with_code c =
    let byte = c.in-Some.ensures.lookup.3 in
    high-code _ _ _ byte.0 (byte.1 0) (high c.in_default-with_code.ensures)

pub returns-then-kind : goal.returns-then-kind
returns-then-kind c =
    let byte = c.in-Some.ensures.lookup.3 in
    let rule = rule-is c.in-Some-with_code.ensures in
    other-kind _ _ _ byte.0 (byte.1 0) rule.0 rule.1 c.kind.ensures c.if-kind.true

pub returns-then-not-takes_choice : goal.returns-then-not-takes_choice
returns-then-not-takes_choice c =
    let byte = c.in-Some.ensures.lookup.3 in
    let rule = rule-is c.in-Some-with_code.ensures in
    plain-head _ _ _ byte.0 (byte.1 0) rule.0 rule.1 c.kind.ensures c.if-kind.false
    (sym c.takes_choice.ensures ∙ c.if-not-takes_choice.true)

pub returns-in_default-get : goal.returns-in_default-get
returns-in_default-get c =
    let byte = c.in-Some.ensures.lookup.3 in
    let rule = rule-is c.in-Some-with_code.ensures in
    no-choice _ _ _ byte.0 (byte.1 0) rule.0 rule.1 c.kind.ensures c.if-kind.false
    (sym c.takes_choice.ensures ∙ c.if-not-takes_choice.false) c.in_default-get.ensures.lookup.3

pub returns : goal.returns
returns c =
    let byte = c.in-Some.ensures.lookup.3 in
    let rule = rule-is c.in-Some-with_code.ensures in
    let choice = c.in-Some-get.ensures.lookup.3 in
    choosing-head _ _ _ byte.0 (byte.1 0) rule.0 rule.1 c.kind.ensures c.if-kind.false
    (sym c.takes_choice.ensures ∙ c.if-not-takes_choice.false) choice.0 (choice.1 0)
    (c.with_choice.ensures ∙ chosen-rule _ rule.0 rule.1)
