pub mod ProgramRounds
