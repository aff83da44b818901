pub use Rattle.thread_list.proofs.Crosses
