use Rattle.display.proofs.Naming as laws
use Rattle.display.proofs.Source.name_text.Goals as goal

pub returns-then-name-eq-STRING_NAME : goal.returns-then-name-eq-STRING_NAME
returns-then-name-eq-STRING_NAME c = search laws.built_in_name

pub bounds-self-name : goal.bounds-self-name
bounds-self-name c = search laws.in_room

pub length_at-requires : goal.length_at-requires
length_at-requires c = search laws.head_inside

pub name_at-requires : goal.name_at-requires
name_at-requires c =
    let w = laws.whole _ _ _ c.requires.names_listed c.requires.name_exists c.if-name-eq-STRING_NAME.false _ c.length_at.ensures in
    record { at_bound = w.0; stop_value = w.1 }

pub returns : goal.returns
returns c = search laws.named
