use Rattle.error_messages.proofs.Answers as laws
use Rattle.error_messages.proofs.measure_and_write.Goals as goal

pub messages_length-needed-requires-clause-ready : goal.messages_length-needed-requires-clause-ready
messages_length-needed-requires-clause-ready c = laws.is_ready _ _ _ _ _ _ _ c.requires.s_value c.requires.sound c.fill_lengths.ensures

pub write_messages-requires-clause-ready : goal.write_messages-requires-clause-ready
write_messages-requires-clause-ready c = laws.is_ready _ _ _ _ _ _ _ c.requires.s_value c.requires.sound c.fill_lengths.ensures
