mod Borne
mod Counted
mod Heard
mod Graded
mod Mapped
mod Blame
