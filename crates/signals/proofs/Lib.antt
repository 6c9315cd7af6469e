pub mod SignalLaws
